use Rattle.std.proofs.Common.{refl, arith}
use Rattle.command_plan.proofs.Stepping.{said, unsaid}
use Rattle.command_plan.proofs.steps.say.Goals as goal

pub returns-in-Ok : goal.returns-in-Ok
returns-in-Ok g c = record {
  at = λ shelf.
      said c.args.line.now _ _ (record { files = refl; faults = omega arith; misses = omega arith; out_faults = c.in-Ok.ensures.cause.later; board = omega arith }) refl c.in-Ok.ensures.ok;
}

pub returns-in-Err : goal.returns-in-Err
returns-in-Err g c = record {
  at = λ shelf.
      unsaid c.args.line.now _ _ (record { files = refl; faults = omega arith; misses = omega arith; out_faults = c.in-Err.ensures.cause.later; board = omega arith }) refl
      c.in-Err.ensures.cause.failed c.in-Err.ensures.err;
}
