use Rattle.std.proofs.Common.{◌≡◌, inl, inr, ap, sym, ◌∙◌, arith}
use Rattle.apf_base.specs.Causes.{Rose}
use Rattle.command_line.specs.Lines.{texts}
use Rattle.command_plan.specs.Status.{status_of}
use Rattle.command_plan.proofs.Breaking.{does_breaks}
use Rattle.command_plan.proofs.Endings.{does_later, does_stands, does_complete, does_read, does_write, does_open, does_usage, does_refuse}
use Rattle.apf_run.proofs.Headline.{filtered}
use Rattle.apf_run.proofs.Early.{keeps_early, only_begun, reads_all}
use Rattle.apf_run.proofs.top.run.Given.{Over}
use Rattle.apf_run.proofs.top.run.Goals as goal
use Rattle.apf_run.proofs.top.run.Goals.{in-Err, in_default}

-- the status is that of the end
status : (g : Over) (c : goal.After-status_of g) → c.status_of.result ≡ status_of c.carry_out-end.result
status g c =
    let end : c.match-end.end ≡ c.carry_out-end.result = elim c.match-end.branch [
      | in-Err w ↦ w.end-is ∙ sym w.in-Err.is
      | in_default w ↦ w.end-is
    ] in
    c.status_of.ensures ∙ ap status_of end

pub returns-clause-filters : goal.returns-clause-filters
returns-clause-filters g c = λ script capture words ok.
    let s = does_stands _ _ _ _ c.carry_out-end.ensures in
    filtered (g.H.Source.file c.args.shelf.now) _ _ script capture _ s.0 c.carry_out-end.result words (sym (status g c) ∙ ok) s.1 s.2

pub returns-clause-first : goal.returns-clause-first
returns-clause-first g c = λ script capture words kind.
    let s = does_stands _ _ _ _ c.carry_out-end.ensures in
    let is = status g c in
    only_begun (g.H.Source.file c.args.shelf.now) _ _ script capture _ s.0 c.carry_out-end.result words (elim kind [
      | inl e ↦ inl (sym is ∙ e)
      | inr e ↦ inr (sym is ∙ e)
    ]) s.1 s.2

pub returns-clause-stands : goal.returns-clause-stands
returns-clause-stands g c =
    let s = does_stands _ _ _ _ c.carry_out-end.ensures in
    (c.carry_out-end.result, status g c, s.0, s.1, s.2)

pub returns-clause-breaks : goal.returns-clause-breaks
returns-clause-breaks g c = λ is. does_breaks _ _ _ _ c.carry_out-end.ensures (sym (status g c) ∙ is)

-- where there is no board, its count doesn't rise
none_rose : Rose 0 0 → ⊥
none_rose rose = omega (arith, rose)

pub returns-clause-complete : goal.returns-clause-complete
returns-clause-complete g c = λ faults misses out_faults.
    elim (does_complete _ _ _ _ c.carry_out-end.ensures (record { faults = faults; misses = misses; out_faults = out_faults; board = none_rose })) [
      | inl lacks ↦ inl (status g c ∙ lacks)
      | inr all ↦ inr (c.carry_out-end.result, status g c, all.0, all.1, all.2, all.3)
    ]

pub returns-clause-usage : goal.returns-clause-usage
returns-clause-usage g c = λ is. does_usage _ _ _ _ c.carry_out-end.ensures (sym (status g c) ∙ is)

pub returns-clause-refused : goal.returns-clause-refused
returns-clause-refused g c = λ not.
    elim (does_refuse _ _ _ _ c.carry_out-end.ensures not) [
      | inl e ↦ inl (status g c ∙ e)
      | inr e ↦ inr (status g c ∙ e)
    ]

pub returns-clause-read : goal.returns-clause-read
returns-clause-read g c = λ is. does_read _ _ _ _ c.carry_out-end.ensures (sym (status g c) ∙ is)

pub returns-clause-write : goal.returns-clause-write
returns-clause-write g c = λ is. does_write _ _ _ _ c.carry_out-end.ensures (sym (status g c) ∙ is)

pub returns-clause-open : goal.returns-clause-open
returns-clause-open g c = λ is. does_open _ _ _ _ c.carry_out-end.ensures (sym (status g c) ∙ is)

pub returns-clause-quiet : goal.returns-clause-quiet
returns-clause-quiet g c = λ ok capture memory write taken none.
    let is = status g c in
    keeps_early (texts c.args.words.now) _ _ c.carry_out-end.result (record { ok = λ e. ok (is ∙ e); capture = λ e. capture (is ∙ e); memory = λ e. memory (is ∙ e); write = λ e. write (is ∙ e) })
    (λ named e. taken named (is ∙ e)) (λ named. let n = none named in (λ e. n.0 (is ∙ e), λ e. n.1 (is ∙ e))) c.carry_out-end.ensures

pub returns-clause-whole : goal.returns-clause-whole
returns-clause-whole g c = λ is no_program no_make.
    reads_all (texts c.args.words.now) _ _ c.carry_out-end.result (sym (status g c) ∙ is) no_program no_make c.carry_out-end.ensures

pub returns-clause-faults : goal.returns-clause-faults
returns-clause-faults g c = (does_later _ _ _ _ c.carry_out-end.ensures).faults

pub returns-clause-misses : goal.returns-clause-misses
returns-clause-misses g c = (does_later _ _ _ _ c.carry_out-end.ensures).misses

pub returns-clause-out_faults : goal.returns-clause-out_faults
returns-clause-out_faults g c = (does_later _ _ _ _ c.carry_out-end.ensures).out_faults

pub returns-clause-files : goal.returns-clause-files
returns-clause-files g c = (does_later _ _ _ _ c.carry_out-end.ensures).files
