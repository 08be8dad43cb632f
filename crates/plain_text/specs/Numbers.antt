-- Words that are decimal numbers. Those in the texts that are read have no sign and no leading zeros.
use Rattle.std.specs.Prelude.{ℕ, ◌≡◌, ◌≤◌, ◌&&◌, ◌||◌, ◌==◌, nat_lt, nat_le, if◌then◌else◌, Bool, false, List, length, slice_index, Option, Some, None}
use Rattle.std.specs.List.{list_all}
use Rattle.std.specs.Fmt.{decimal}
use Rattle.std.specs.Char.{is_ascii_digit}
use Rattle.std.specs.Str.Parse.{digits_value}

-- the word is the decimal writing of a number up to a limit
abbrev pub WritesNumber : ℕ → List ℕ → ℕ → Type 0
WritesNumber limit word n = (n ≤ limit) × (word ≡ decimal n)

-- ---- by functions that compute

-- digits of which the first isn't a surplus zero
abbrev pub is_numeral : List ℕ → Bool
is_numeral word = if (length word == 0) || ((slice_index word 0 == 48) && nat_lt 1 (length word)) then false else list_all is_ascii_digit word

-- a number up to a limit
abbrev pub at_most : ℕ → ℕ → Option ℕ
at_most limit n = if nat_le n limit then Some n else None

-- the number up to a limit that digits spell
unfoldable pub number_within : ℕ → List ℕ → Option ℕ
number_within limit word = if is_numeral word then at_most limit (digits_value 10 word) else None
