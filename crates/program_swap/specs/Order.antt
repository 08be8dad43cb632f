-- Answers that name installs of a list, in its order, and what contracts see of a lane.
use Rattle.std.specs.Prelude.{◌≡◌, ℕ, ◌≤◌, List, [], ◌∷◌, ◌++◌, Option}
use Rattle.logbook.specs.Pages.{Book}
use Rattle.filter_core.specs.declared.install.Install.{Install}
use Rattle.policy_state.specs.declared.basis.Answer.{Answer}
use Rattle.program_swap.specs.Histories.{History}

-- an install of the list has this number
pub record HasInstall (view : List Install) (n : ℕ) : Type 0 where
  pub before : List Install
  pub install : Install
  pub after : List Install
  pub stands : view ≡ before ++ install ∷ after
  pub number : install.number ≡ n

-- each answer names an install of the list
abbrev pub AllHaveInstalls : List Install → List Answer → Type 0
AllHaveInstalls view [] = Unit {0}
AllHaveInstalls view (a ∷ more) = HasInstall view a.number × AllHaveInstalls view more

-- no answer has a number below this
abbrev pub NoneBelow : ℕ → List Answer → Type 0
NoneBelow n [] = Unit {0}
NoneBelow n (a ∷ more) = (n ≤ a.number) × NoneBelow n more

-- the numbers never fall
abbrev pub NeverFalls : List Answer → Type 0
NeverFalls [] = Unit {0}
NeverFalls (a ∷ more) = NoneBelow a.number more × NeverFalls more

-- the answers name installs of the list, in its order
abbrev pub KeepsOrder : List Install → List Answer → Type 0
KeepsOrder view answers = AllHaveInstalls view answers × NeverFalls answers

-- What contracts see of a lane. `read` is what its reader place read last, as left_right has it
pub record LaneState : Type 0 where
  pub board : Book
  pub view : List Install
  pub read : Option History
  pub answers : List Answer
  pub memory : List ℕ
  pub spare : ℕ
  pub entered : ℕ
  pub refused : ℕ

-- what contracts see of a lane's end
pub record EndState : Type 0 where
  pub board : Book
  pub view : List Install
  pub answers : List Answer
  pub memory : List ℕ
  pub entered : ℕ
