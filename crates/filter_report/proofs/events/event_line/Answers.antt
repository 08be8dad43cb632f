use Rattle.std.proofs.Common.{sym}
use Rattle.std.proofs.lemmas.Result.{IfOk-weaker}
use Rattle.filter_core.proofs.TakenFrames.{renews_number}
use Rattle.filter_report.proofs.Updating.{told_event, line_of_other}
use Rattle.filter_report.proofs.events.event_line.Goals as goal

pub returns-in-Installed-clause-along : goal.returns-in-Installed-clause-along
returns-in-Installed-clause-along c = λ course frames lines along.
    IfOk-weaker c.gen_line.result _ _ (λ line shown.
    told_event course c.args.core.now c.update.new.self frames lines line c.args.event.now c.in_ok-reply.reply along c.in_ok-reply.ensures.reply c.in_ok-reply.ensures.filter c.in_ok-reply.ensures.install c.in_ok-reply.ensures.memory
    (rw c.in-Installed.is (rw (sym c.install.ensures) shown))) c.gen_line.ensures

pub returns-in_default : goal.returns-in_default
returns-in_default c = record {
  along = λ course frames lines along.
      IfOk-weaker c.update_line.result _ _ (λ line shown.
      told_event course c.args.core.now c.update.new.self frames lines line c.args.event.now c.in_ok-reply.reply along c.in_ok-reply.ensures.reply c.in_ok-reply.ensures.filter c.in_ok-reply.ensures.install c.in_ok-reply.ensures.memory
      (line_of_other _ _ _ c.in_default.not-Installed (rw (sym c.clock.ensures) shown))) c.update_line.ensures;
  number = renews_number _ c.args.core.now.install c.update.new.self.install c.in_ok-reply.ensures.install;
}
