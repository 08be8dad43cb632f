use Rattle.std.proofs.Common.{◌≡◌, map, drop}
use Rattle.policy_state.specs.Asking.{first_of}
use Rattle.policy_state.specs.Records.{advertised_again}
use Rattle.policy_state.proofs.records.first_again.Given as goal

abbrev pub invariant-loop-one : goal.invariant-loop-one
invariant-loop-one l = first_of (map (λ one. advertised_again one l.age l.frame) (drop l.one-index l.chosen)) ≡ first_of (map (λ one. advertised_again one l.age l.frame) l.chosen)
