-- The rule over the board, and what its steps tell.
use Rattle.std.specs.Prelude.{◌≡◌, ℕ, ◌≤◌, List, Option, Some}
use mathlib.Core.Option.{some}
use mathlib.Core.List.{IsPrefix}
use lib.ListN.{get_elem?}
use Rattle.filter_core.specs.declared.install.Install.{Install}
use Rattle.program_swap.specs.Histories.{History, HasLast}

-- the second is of the same board, and goes on where the first ends
abbrev pub GrowsTo : History → History → Type 0
GrowsTo s t = (s.board ≡ t.board) × IsPrefix s.installs t.installs

-- what is shown goes on from what each lane read
abbrev pub IsAhead : History → List (Option History) → Type 0
IsAhead x views = (seat : ℕ) (s : History) → get_elem? views seat ≡ some (Some s) → GrowsTo s x

-- what was published is known
abbrev pub KnowsNew : Option History → History → History → Option History → Type 0
KnowsNew v x y w = w ≡ Some y

-- what was read is known, and it goes on from what was read before
abbrev pub KnowsRead : Option History → History → History → Option History → Type 0
KnowsRead v x y w = (w ≡ Some y) × ((s : History) → v ≡ Some s → GrowsTo s y)

-- what was known is known still, and goes on
abbrev pub ReadsOn : Option History → Option History → Type 0
ReadsOn v w = (s : History) → v ≡ Some s → (t : History) × (w ≡ Some t) × GrowsTo s t

-- the last install has this number at least
abbrev pub ReachesNumber : ℕ → History → Type 0
ReachesNumber least s = (i : Install) × HasLast s.installs i × (least ≤ i.number)
