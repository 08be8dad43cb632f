-- What follows the lines so far, from the present place on, is the rest of the listing.
use Rattle.std.proofs.Common.{◌-◌, ◌≤◌, ◌++◌, List, map, length}
use Rattle.apf_disasm.specs.Listing.{ListingEntry, entry_of, Lists, IsListing}
use Rattle.apf_disasm.proofs.listing.list.Given as goal

abbrev pub invariant-loop-at : goal.invariant-loop-at
invariant-loop-at l = record {
  listed : (rest : List ListingEntry) → Lists l.code l.at rest → IsListing l.code (map entry_of l.lines ++ rest);
  within : l.at ≤ length l.code;
}

abbrev pub decreases-loop-at : goal.decreases-loop-at
decreases-loop-at l = length l.code - l.at
