use Rattle.std.proofs.Common.{◌+◌, ◌∙◌, List, ap, sym}
use Rattle.filter_core.specs.Installs.{install_of}
use Rattle.filter_core.specs.Records.{is_standing}
use Rattle.filter_core.proofs.Standing.{all_kept}
use Rattle.ra_records.specs.declared.replies.Held.{Held}
use Rattle.filter_core.proofs.making.make_next.Goals as goal

pub returns-then-all_stand-clause-install : goal.returns-then-all_stand-clause-install
returns-then-all_stand-clause-install c =
    c.in_ok-install.ensures.install
    ∙ ap (λ config. install_of (c.args.old.now.number + 1) c.args.now config c.args.state c.args.records.now) c.in_ok-config.ensures
    ∙ ap (λ (l : List Held). install_of (c.args.old.now.number + 1) c.args.now c.args.old.now.basis.config c.args.state l)
    (sym (all_kept (is_standing c.args.now) c.args.records.now (sym c.all_stand.ensures ∙ c.if-all_stand.true)))

pub returns-then-all_stand-clause-held : goal.returns-then-all_stand-clause-held
returns-then-all_stand-clause-held c = sym (all_kept (is_standing c.args.now) c.args.records.now (sym c.all_stand.ensures ∙ c.if-all_stand.true))
