-- What sections, masked ranges and options are, seen as ranges of a frame.
use Rattle.std.specs.Prelude.{◌≡◌, ℕ, ◌+◌, ◌*◌, ◌<◌, ◌≤◌, ⊤, List, [], ◌∷◌, length, slice_index, All}
use Rattle.ra_records.specs.declared.span.Span.{Span}
use Rattle.ra_records.specs.Options.{lifetimes_of}
use Rattle.ra_records.specs.Advert.{options_at}

-- ranges stand in order from a place on, and at least a place lies between each and the next
abbrev pub AreApart : ℕ → List Span → Type 0
AreApart from [] = ⊤
AreApart from (s ∷ spans) = (from ≤ s.at) × AreApart (s.at + s.len + 1) spans

-- ranges tile the places from one up to an end: the first begins there, each other where the one before it ends
abbrev pub Tile : ℕ → List Span → ℕ → Type 0
Tile from [] end = from ≡ end
Tile from (s ∷ spans) end = (s.at ≡ from) × Tile (s.at + s.len) spans end

-- a range is an option: it isn't empty, and has as many bytes as its second byte says, in units of 8; prefix information
-- has at least 16
pub record IsOption (frame : List ℕ) (s : Span) : Type 0 where
  pub some : 0 < s.len
  pub size : s.len ≡ 8 * slice_index frame (s.at + 1)
  pub long : slice_index frame s.at ≡ 3 → 16 ≤ s.len

-- ranges are the options of an advertisement's frame: they tile it from byte 70 to its end
pub record AreOptions (frame : List ℕ) (options : List Span) : Type 0 where
  pub tile : Tile options_at options (length frame)
  pub each : All (IsOption frame) options

-- the ranges of the lifetimes of an option
abbrev pub lifetimes_at : List ℕ → Span → List Span
lifetimes_at frame s = lifetimes_of (slice_index frame s.at) s.at
