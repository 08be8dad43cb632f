use Rattle.std.proofs.Common.{◌≡◌, map, drop}
use Rattle.policy_state.specs.Asking.{first_of}
use Rattle.policy_state.specs.Ip4.{slot_answer}
use Rattle.policy_state.proofs.ip4.slots_answer.Given as goal

abbrev pub invariant-loop-slot : goal.invariant-loop-slot
invariant-loop-slot l = first_of (map (slot_answer l.frame) l.slots) ≡ first_of (map (slot_answer l.frame) (drop l.slot-index l.slots))
