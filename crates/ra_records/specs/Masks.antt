-- Ranges of a frame: which places they cover, what stands between them, and equality outside them.
use Rattle.std.specs.Prelude.{◌≡◌, ◌⊎◌, ℕ, ◌+◌, ◌-◌, ◌<◌, ◌≤◌, nat_lt, nat_le, ◌==◌, Bool, true, ◌&&◌, ◌||◌, if◌then◌else◌, List, [], ◌∷◌, ◌++◌, bytes_eq, slice_range}
use Rattle.std.specs.List.{list_any}
use Rattle.ra_records.specs.declared.span.Span.{Span}

-- so many bytes from a place on
abbrev pub span : ℕ → ℕ → Span
span at len = record { at = at; len = len }

-- whether a place lies in a range
abbrev pub lies_in : ℕ → Span → Bool
lies_in at s = nat_le s.at at && nat_lt at (s.at + s.len)

-- whether a place lies in one of the ranges
abbrev pub is_masked : ℕ → List Span → Bool
is_masked at masks = list_any (lies_in at) masks

-- whether bytes are equal at every place that lies in no range; the first of them stand at this place
abbrev pub same_outside : List Span → ℕ → List ℕ → List ℕ → Bool
same_outside masks at (x ∷ xs) (y ∷ ys) = (is_masked at masks || (x == y)) && same_outside masks (at + 1) xs ys
same_outside masks at [] ys = true
same_outside masks at (x ∷ xs) [] = true

-- the range from a place up to another, unless it is empty
abbrev pub stretch : ℕ → ℕ → List Span
stretch from to = if nat_lt from to then span from (to - from) ∷ [] else []

-- the nonempty ranges between others, from a place up to an end
abbrev pub between : ℕ → List Span → ℕ → List Span
between from [] end = stretch from end
between from (m ∷ masks) end = stretch from m.at ++ between (m.at + m.len) masks end

-- the ranges stand one behind the other, from a place up to an end
abbrev pub IsRising : ℕ → List Span → ℕ → Type 0
IsRising from [] end = from ≤ end
IsRising from (m ∷ masks) end = (from ≤ m.at) × IsRising (m.at + m.len) masks end

-- a section of two frames is equal
abbrev pub is_equal : List ℕ → List ℕ → Span → Bool
is_equal frame bytes s = bytes_eq (slice_range frame s.at (s.at + s.len)) (slice_range bytes s.at (s.at + s.len))

-- a range has a byte, and lies within so many bytes
pub record IsSpanWithin (end : ℕ) (s : Span) : Type 0 where
  pub some : 0 < s.len
  pub within : s.at + s.len ≤ end

-- a range of two or of four bytes lies within so many bytes
pub record IsNumber (end : ℕ) (s : Span) : Type 0 where
  pub within : s.at + s.len ≤ end
  pub width : (s.len ≡ 2) ⊎ (s.len ≡ 4)
