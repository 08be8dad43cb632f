use Rattle.std.proofs.Common.{ℕ, ap₂, subst, sym, ◌∙◌, List, length}
use Rattle.command_plan.proofs.Following.{err_is}
use Rattle.filter_report.specs.Scripted.{HasTold}
use Rattle.filter_report.specs.Text.{last_lines}
use Rattle.apf_run.proofs.LaneLines.{told_unsaid, answers_unsaid, last_said, last_lacks}
use Rattle.apf_run.proofs.live_lines.say_live.Goals as goal

pub returns-in_err-say_all : goal.returns-in_err-say_all
returns-in_err-say_all g c = λ script told.
    let t = c.args.told.now in
    told_unsaid _ _ script t.installs c.as_slice.result.now c.args.lanes c.args.answers.now c.args.sum.now _ c.in_err-say_all.field-0.0 c.in_err-say_all.ensures (err_is _ _ c.from_residual.ensures.1)
    (subst (λ (ls : List (List ℕ)). HasTold script t.installs ls) (sym c.as_slice.ensures) told)

pub returns-in_err-say_answers : goal.returns-in_err-say_answers
returns-in_err-say_answers g c = λ script told.
    let t = c.args.told.now in
    answers_unsaid _ _ script t.installs c.as_slice.result.now c.args.lanes c.args.answers.now c.args.sum.now _ _ c.in_ok-say_all.ensures c.in_err-say_answers.field-0.0 c.in_err-say_answers.ensures
    (err_is _ _ c.from_residual-in_err-say_answers.ensures.1) (subst (λ (ls : List (List ℕ)). HasTold script t.installs ls) (sym c.as_slice.ensures) told)

pub returns-in_err-last : goal.returns-in_err-last
returns-in_err-last g c = λ script told.
    let t = c.args.told.now in
    last_lacks _ _ _ script t.installs c.as_slice.result.now c.args.lanes c.args.answers.now c.args.sum.now _ c.from_residual-in_err-last.ensures.1 c.in_ok-say_all.ensures c.in_ok-say_answers.ensures
    (subst (λ (ls : List (List ℕ)). HasTold script t.installs ls) (sym c.as_slice.ensures) told)

pub returns : goal.returns
returns g c = λ script told.
    let t = c.args.told.now in
    let is = c.as_slice-2.ensures ∙ c.in_ok-last.ensures ∙ ap₂ (λ (p n : ℕ). last_lines c.args.sum.now (length c.args.answers.now) p n) c.passed_of.ensures.passed c.len-installs.ensures in
    last_said _ _ script t.installs c.as_slice.result.now c.args.lanes c.args.answers.now c.args.sum.now _ _ c.in_ok-say_all.ensures _ c.as_slice-2.result.now is c.in_ok-say_answers.ensures c.say_all-2.ensures
    (subst (λ (ls : List (List ℕ)). HasTold script t.installs ls) (sym c.as_slice.ensures) told)
