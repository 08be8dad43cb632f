use Rattle.std.proofs.Common.{◌≡◌, inl, inr, ap, sym, ◌∙◌, arith}
use Rattle.command_line.specs.Lines.{texts}
use Rattle.command_plan.specs.Status.{status_of}
use Rattle.command_plan.proofs.Endings.{does_later, does_stands, does_complete, does_read, does_write, does_open, does_board, does_usage, does_refuse}
use Rattle.apf_run.proofs.LiveWords.{live_quiet, live_whole, lived_by}
use Rattle.apf_run.proofs.top_live.run_live.Given.{Over}
use Rattle.apf_run.proofs.top_live.run_live.Goals as goal
use Rattle.apf_run.proofs.top_live.run_live.Goals.{in-Err, in_default}

-- the status is that of the end
status : (g : Over) (c : goal.After-status_of g) → c.status_of.result ≡ status_of c.carry_out-end.result
status g c =
    let end : c.match-end.end ≡ c.carry_out-end.result = elim c.match-end.branch [
      | in-Err w ↦ w.end-is ∙ sym w.in-Err.is
      | in_default w ↦ w.end-is
    ] in
    c.status_of.ensures ∙ ap status_of end

pub returns-clause-stands : goal.returns-clause-stands
returns-clause-stands g c =
    let s = does_stands _ _ _ _ c.carry_out-end.ensures.plan in
    (c.carry_out-end.result, status g c, s.0, s.1, s.2)

pub returns-clause-complete : goal.returns-clause-complete
returns-clause-complete g c = λ faults misses out_faults board.
    elim (does_complete _ _ _ _ c.carry_out-end.ensures.plan (record { faults = faults; misses = misses; out_faults = out_faults; board = board })) [
      | inl lacks ↦ inl (status g c ∙ lacks)
      | inr all ↦ inr (c.carry_out-end.result, status g c, all.0, all.1, all.2, all.3)
    ]

pub returns-clause-usage : goal.returns-clause-usage
returns-clause-usage g c = λ is. does_usage _ _ _ _ c.carry_out-end.ensures.plan (sym (status g c) ∙ is)

pub returns-clause-refused : goal.returns-clause-refused
returns-clause-refused g c = λ not.
    elim (does_refuse _ _ _ _ c.carry_out-end.ensures.plan not) [
      | inl e ↦ inl (status g c ∙ e)
      | inr e ↦ inr (status g c ∙ e)
    ]

pub returns-clause-read : goal.returns-clause-read
returns-clause-read g c = λ is. does_read _ _ _ _ c.carry_out-end.ensures.plan (sym (status g c) ∙ is)

pub returns-clause-write : goal.returns-clause-write
returns-clause-write g c = λ is. does_write _ _ _ _ c.carry_out-end.ensures.plan (sym (status g c) ∙ is)

pub returns-clause-open : goal.returns-clause-open
returns-clause-open g c = λ is. does_open _ _ _ _ c.carry_out-end.ensures.plan (sym (status g c) ∙ is)

pub returns-clause-faults : goal.returns-clause-faults
returns-clause-faults g c = (does_later _ _ _ _ c.carry_out-end.ensures.plan).faults

pub returns-clause-misses : goal.returns-clause-misses
returns-clause-misses g c = (does_later _ _ _ _ c.carry_out-end.ensures.plan).misses

pub returns-clause-out_faults : goal.returns-clause-out_faults
returns-clause-out_faults g c = (does_later _ _ _ _ c.carry_out-end.ensures.plan).out_faults

pub returns-clause-files : goal.returns-clause-files
returns-clause-files g c = (does_later _ _ _ _ c.carry_out-end.ensures.plan).files

pub returns-clause-board : goal.returns-clause-board
returns-clause-board g c = λ is. does_board _ _ _ _ c.carry_out-end.ensures.plan (sym (status g c) ∙ is)

pub returns-clause-refusals : goal.returns-clause-refusals
returns-clause-refusals g c = (does_later _ _ _ _ c.carry_out-end.ensures.plan).board

pub returns-clause-lives : goal.returns-clause-lives
returns-clause-lives g c = λ script capture lanes words ok.
    lived_by (texts c.args.words.now) _ _ c.carry_out-end.result (sym (status g c) ∙ ok) script capture lanes _ words c.carry_out-end.ensures.plan c.carry_out-end.ensures.lived

pub returns-clause-quiet : goal.returns-clause-quiet
returns-clause-quiet g c = λ ok memory write.
    let is = status g c in
    live_quiet (texts c.args.words.now) _ _ c.carry_out-end.result (λ e. ok (is ∙ e)) (λ e. memory (is ∙ e)) (λ e. write (is ∙ e)) c.carry_out-end.ensures.plan

pub returns-clause-whole : goal.returns-clause-whole
returns-clause-whole g c = λ ok. live_whole (texts c.args.words.now) _ _ c.carry_out-end.result (sym (status g c) ∙ ok) c.carry_out-end.ensures.plan
