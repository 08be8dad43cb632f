use Rattle.std.proofs.Common.{◌≡◌, ◌+◌, ◌≤◌, ◌++◌, length, take, drop}
use Rattle.ip_rules.specs.Ip4Listing.{slots_items}
use Rattle.ip_rules.proofs.keepalives.add_answers.Given as goal

abbrev pub invariant-loop-slot : goal.invariant-loop-slot
invariant-loop-slot l = record {
  made : l.out ++ slots_items l.label (drop l.slot-index l.slots) ≡ l.fn.out ++ slots_items l.next l.slots;
  kept : take (length l.fn.out) l.out ≡ l.fn.out;
  few : l.label ≤ l.next + l.slot-index;
}
