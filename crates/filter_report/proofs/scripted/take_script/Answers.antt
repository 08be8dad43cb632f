use Rattle.std.proofs.Common.{◌≡◌, List, arith, ap, length, subst, fold}
use Rattle.policy_state.specs.declared.basis.Timed.{Timed}
use Rattle.filter_core.specs.Replay.{after_event, begun}
use Rattle.filter_report.proofs.Listing.{listed_first, listed_told}
use Rattle.filter_report.proofs.Updating.{first-number}
use Rattle.filter_report.specs.Scripted.{HasListed}
use Rattle.filter_report.proofs.scripted.take_script.Goals as goal

pub take_events-requires : goal.take_events-requires
take_events-requires c =
    omega (arith, c.requires.few_events, ap (λ (events : List Timed). length events) c.as_slice.ensures, first-number c.in_ok-core.core c.args.script.config c.args.script.start c.in_ok-core.ensures.along)

pub returns-clause-told : goal.returns-clause-told
returns-clause-told c =
    let script = c.args.script in
    let first = listed_first script c.in_ok-core.core c.in_ok-core.ensures.along in
    let added = c.in_ok-add_install.ensures in
    let start : HasListed (begun script) c.in_ok-core.core c.add_install.new.self.installs c.add_install.new.self.lines =
    rw (added.installs, added.lines, c.new.ensures, c.new-2.ensures, c.install.ensures) first in
    listed_told script c.take_events.new.core c.take_events.new.self.installs c.take_events.new.self.lines
    (subst (λ (events : List Timed). HasListed (fold after_event (begun script) events) c.take_events.new.core c.take_events.new.self.installs c.take_events.new.self.lines) c.as_slice.ensures
    (c.in_ok-take_events.ensures (begun script) start))
