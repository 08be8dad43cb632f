use Rattle.std.proofs.Common.{ℕ, List, [], ◌∷◌, ◌++◌, sym, ap, subst, ◌∙◌}
use Rattle.std.proofs.lemmas.Result.{on_ok_weaker}
use Rattle.filter_core.proofs.TakenFrames.{renews_number}
use Rattle.filter_report.proofs.Listing.{on_ok_both, listed_by_install, listed_by_reply}
use Rattle.filter_core.specs.Replay.{after_event}
use Rattle.filter_core.specs.declared.install.Install.{Install}
use Rattle.script_text.specs.Report.{gen_line, update_line}
use Rattle.filter_report.specs.Scripted.{HasListed}
use Rattle.filter_report.proofs.scripted.ScriptTold.take_event.Goals as goal

pub returns-in-Installed-clause-ok : goal.returns-in-Installed-clause-ok
returns-in-Installed-clause-ok c = λ course listed.
    let replied = c.in_ok-reply.ensures in
    let i = c.update.new.self.install in
    let put : Install → List Install = λ (j : Install). c.args.self.now.installs ++ j ∷ [] in
    let shown : Install → List (List ℕ) = λ (j : Install). c.args.self.now.lines ++ gen_line j.number j.at j.left j.code ∷ [] in
    on_ok_both c.add_install.result
    (λ installs lines.
    let is = installs ∙ ap put c.install.ensures in
    let ls = lines ∙ ap shown c.install.ensures in
    subst (λ (all : List Install). HasListed (after_event course c.args.event.now) c.update.new.self all c.add_install.new.self.lines) (sym is)
    (subst (λ (all : List (List ℕ)). HasListed (after_event course c.args.event.now) c.update.new.self (put i) all) (sym ls)
    (listed_by_install course c.args.core.now c.update.new.self c.args.event.now c.in_ok-reply.reply c.args.self.now.installs c.args.self.now.lines listed replied.reply replied.filter replied.install c.in-Installed.is)))
    c.add_install.ensures.installs c.add_install.ensures.lines

pub returns-in_ok-update_line-in_default : goal.returns-in_ok-update_line-in_default
returns-in_ok-update_line-in_default c = record {
  ok = λ course listed.
      let replied = c.in_ok-reply.ensures in
      let shown : List ℕ → List (List ℕ) = λ (line : List ℕ). c.args.self.now.lines ++ line ∷ [] in
      on_ok_weaker c.push.result
      (λ lines. let is = lines ∙ ap shown (c.in_ok-update_line-in_default.ensures ∙ ap (λ (clock : ℕ). update_line c.in_ok-reply.reply clock) c.clock.ensures) in
      subst (λ (all : List (List ℕ)). HasListed (after_event course c.args.event.now) c.update.new.self c.args.self.now.installs all) (sym is)
      (listed_by_reply course c.args.core.now c.update.new.self c.args.event.now c.in_ok-reply.reply c.args.self.now.installs c.args.self.now.lines listed replied.reply replied.filter replied.install c.in_default.not-Installed))
      c.push.ensures.ok;
  number = renews_number _ c.args.core.now.install c.update.new.self.install c.in_ok-reply.ensures.install;
}
