-- The words in which the policy's questions are written.
use Rattle.std.specs.Prelude.{Bool, true, false, List, [], ◌∷◌, Option, Some, None}
use Rattle.policy_state.specs.declared.ruling.Ruling.{Ruling}
use Rattle.policy_state.specs.declared.ruling.Ruling.TheVariants.{Missing, Says, Silent}

-- a field is read, and where it is missing that is the answer
abbrev pub reading : {A : Type 0} → Option A → (A → Ruling) → Ruling
reading None then = Missing
reading (Some v) then = then v

-- only where this is so
abbrev pub when : Bool → Ruling → Ruling
when true then = then
when false then = Silent

-- the answer, or where there is none the later one
abbrev pub otherwise : Ruling → Ruling → Ruling
otherwise Silent later = later
otherwise Missing later = Missing
otherwise (Says verdict counter) later = Says verdict counter

-- the first answer of questions that are asked in order
abbrev pub first_of : List Ruling → Ruling
first_of [] = Silent
first_of (answer ∷ later) = otherwise answer (first_of later)
