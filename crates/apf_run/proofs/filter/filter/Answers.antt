use Rattle.std.proofs.Common.{List, ℕ, sym, subst}
use Rattle.command_plan.specs.Plan.{MayFetch, ◌>>=◌}
use Rattle.command_plan.proofs.Fetching.{asked_fits, behind_read, behind_think}
use Rattle.apf_run.specs.Filter.{filters, reads_script}
use Rattle.apf_run.proofs.filter.filter.Goals as goal

pub script_of-requires : goal.script_of-requires
script_of-requires g c = asked_fits _ _ _ _ _ _ c.as_slice.ensures c.in_ok-text.ensures

pub filter_by-requires-clause-may : goal.filter_by-requires-clause-may
filter_by-requires-clause-may g c =
    behind_think g.H.Shelf.may (reads_script c.as_slice.result.now) (λ read. filters read c.args.capture.now) c.in_ok-script.script c.in_ok-script.ensures.script
    (subst (λ (text : List ℕ). MayFetch g.H.Shelf.may (reads_script text >>= λ read. filters read c.args.capture.now)) (sym c.as_slice.ensures)
    (behind_read _ _ _ _ _ _ c.in_ok-text.ensures c.requires))
