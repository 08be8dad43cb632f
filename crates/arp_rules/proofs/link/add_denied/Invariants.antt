use Rattle.std.proofs.Common.{◌≡◌, ◌++◌, take}
use Rattle.arp_rules.specs.Listing.{denied_items}
use Rattle.arp_rules.proofs.link.add_denied.Given as goal

abbrev pub invariant-loop-denied : goal.invariant-loop-denied
invariant-loop-denied l = l.out ≡ l.fn.out ++ denied_items (take l.denied-index l.deny)
