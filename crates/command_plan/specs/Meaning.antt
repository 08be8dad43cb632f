-- What words mean: the plan of a command, or nothing.
use Rattle.std.specs.Prelude.{ℕ, Bool, true, false, List, Option, None, Some, Result, Err, ⊤}
use Rattle.std.specs.Str.{bytes_eq}
use Rattle.command_plan.specs.Follows.{Stage, Ends, Follows}
use Rattle.command_plan.specs.Ending.{EndsAs, MayEnd}
use Rattle.command_plan.specs.Plan.{Plan, IsQuiet, MayFetch, ReadsWhole}
use Rattle.command_plan.specs.declared.fault.Fault.{Fault}
use Rattle.command_plan.specs.declared.fault.Fault.TheVariants.{Usage}

pub data CommandMeaning : Type 1 where
  nothing : CommandMeaning
  command : Plan (Unit {0}) → CommandMeaning

-- a word that spells a value, with which the meaning goes on
abbrev pub spelled : {A : Type 0} → Option A → (A → CommandMeaning) → CommandMeaning
spelled None next = nothing
spelled (Some x) next = next x

-- the meaning of a command's name: this where it is the name, and else the other
abbrev pub named_so : Bool → CommandMeaning → CommandMeaning → CommandMeaning
named_so true this other = this
named_so false this other = other

abbrev pub named : List ℕ → List ℕ → CommandMeaning → CommandMeaning → CommandMeaning
named name word this other = named_so (bytes_eq name word) this other

-- the words are accepted
abbrev pub IsAccepted : CommandMeaning → Type 0
IsAccepted nothing = ⊥
IsAccepted (command plan) = ⊤

-- A call does what is meant: it follows the plan, or the words are refused.
abbrev pub Does : CommandMeaning → Stage → Stage → Result (Unit {0}) Fault → Type 0
Does nothing a b result = Ends (Err Usage) a b result
Does (command plan) a b result = Follows plan a b result

abbrev pub MayEndBy : CommandMeaning → (List ℕ → Option (List ℕ)) → List (List ℕ) → Result (Unit {0}) Fault → Type 0
MayEndBy nothing file lines end = EndsAs (Err Usage) lines end
MayEndBy (command plan) file lines end = MayEnd plan file lines end

abbrev pub MayFetchFor : (List ℕ → Type 0) → CommandMeaning → Type 0
MayFetchFor may nothing = ⊤
MayFetchFor may (command plan) = MayFetch may plan

abbrev pub ReadsWholeFor : CommandMeaning → Type 0
ReadsWholeFor nothing = ⊥
ReadsWholeFor (command plan) = ReadsWhole false plan

abbrev pub IsQuietFor : Bool → CommandMeaning → Type 0
IsQuietFor by_and_by nothing = ⊤
IsQuietFor by_and_by (command plan) = IsQuiet by_and_by false plan
