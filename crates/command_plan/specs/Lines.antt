-- Texts that are written a line at a time, each line as one piece. A line has its line feed.
use Rattle.std.specs.Prelude.{◌≡◌, ℕ, List, ◌++◌, Option}
use Rattle.apf_base.specs.Streams.{AppendsAll}

-- the known bytes grow by the first of these lines, each of them whole
abbrev pub AppendsFirst : Option (List ℕ) → Option (List ℕ) → List (List ℕ) → Type 0
AppendsFirst old new lines = (first : List (List ℕ)) × (rest : List (List ℕ)) × (lines ≡ first ++ rest) × AppendsAll old new first
