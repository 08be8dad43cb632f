-- A byte for each place of a program, which marks the places of its instructions.
use Rattle.std.specs.Prelude.{◌≡◌, ℕ, Bool, not, ◌==◌, List, length, slice_index}
use Rattle.apf_check.specs.Orderly.{Part, Stand, is_place}

-- its byte isn't 0
abbrev pub is_marked : List ℕ → ℕ → Bool
is_marked marks at = not (slice_index marks at == 0)

-- instructions fill the program, there are so many, and their places are marked
pub record AreMarked (program : List ℕ) (count : ℕ) (marks : List ℕ) : Type 0 where
  pub parts : List Part
  pub fill : Stand program 0 parts (length program)
  pub many : length parts ≡ count
  pub marked : (at : ℕ) → is_marked marks at ≡ is_place parts at
