-- What a read through a buffer leaves.
use Rattle.std.proofs.Common.{◌≡◌, ◌≤◌, ℕ, List, [], Option, Some, None, take, drop, sym, arith, length-take}
use Rattle.std.proofs.lemmas.List.{drop_all}
use Rattle.std.specs.Io.KnownBytes.{Keeps, Consumes, prepend_known}

-- what a reader gave is held, and nothing is lost
pub prepend_known-consumed : (a b : Option (List ℕ)) (bs : List ℕ) → Consumes a b bs → Keeps a (prepend_known bs b)
prepend_known-consumed None b bs p = tt
prepend_known-consumed (Some x) None bs p = absurd p
prepend_known-consumed (Some x) (Some y) bs p = sym p

-- nothing is held from the last place on
pub drop-take_all : (bytes : List ℕ) (at filled : ℕ) → filled ≤ at → drop at (take filled bytes) ≡ []
drop-take_all bytes at filled within = drop_all at (take filled bytes) (omega (arith, length-take filled bytes))
