use Rattle.std.proofs.Common.{◌≡◌, take}
use Rattle.policy_state.proofs.copies.copy_all.Given as goal

abbrev pub invariant-loop-one : goal.invariant-loop-one
invariant-loop-one l = l.copies ≡ take l.one-index l.chosen
