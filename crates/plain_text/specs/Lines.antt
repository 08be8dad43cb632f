-- The lines of a text.
use Rattle.std.specs.Prelude.{ℕ, ◌==◌, if◌then◌else◌, List, [], ◌∷◌}
use Rattle.std.specs.List.{onto_first}

-- a line feed ends each line, and maybe not the last
abbrev pub lines_of : List ℕ → List (List ℕ)
lines_of [] = []
lines_of (b ∷ rest) = if b == 10 then [] ∷ lines_of rest else onto_first b (lines_of rest)
