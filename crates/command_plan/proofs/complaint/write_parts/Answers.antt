use Rattle.std.proofs.Common.{refl, rules, [], arith}
use Rattle.std.proofs.KnownBytes.{Appends-nil}
use Rattle.std.proofs.lemmas.Result.{err_from_is_err_and}
use Rattle.command_plan.proofs.Fronts.{one_more_part, part_fails, all_parts}
use Rattle.command_plan.proofs.Stages.{part_front}
use Rattle.command_plan.proofs.complaint.write_parts.Goals as goal

pub loop-part-init : goal.loop-part-init
loop-part-init g c = record { written = ([], Appends-nil _, refl); faults = omega arith }

pub loop-part-preserved : goal.loop-part-preserved
loop-part-preserved g c = record {
  written =
      let before = c.loop-part.invariant.written in
      one_more_part (λ part. part.now) c.args.parts.now c.loop-part.part-index _ c.as_bytes.result.now before.0 _ _ _ _
      (search rules) c.as_bytes.ensures.value before.1 c.in_ok-write_all.ensures.ok before.2;
  faults = omega arith;
}

pub returns-in_err-write_all-clause-err : goal.returns-in_err-write_all-clause-err
returns-in_err-write_all-clause-err g c =
    let before = c.loop-part.invariant.written in
    let p = err_from_is_err_and c.from_residual.result c.from_residual.ensures.1 in
    let front = part_fails (λ part. part.now) c.args.parts.now c.loop-part.part-index _ c.as_bytes.result.now before.0 _ _ _ _
    (search rules) c.as_bytes.ensures.value before.1 (part_front _ _ _ c.in_err-write_all.ensures.err) before.2 in
    rw (p.1) front

pub returns-clause-ok : goal.returns-clause-ok
returns-clause-ok g c =
    let before = c.loop-part.invariant.written in
    all_parts (λ part. part.now) c.args.parts.now c.loop-part.part-index before.0 _ _ _ (search rules) before.1 before.2
