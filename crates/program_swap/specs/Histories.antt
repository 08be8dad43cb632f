-- Lists of installs whose numbers rise by one.
use Rattle.std.specs.Prelude.{◌≡◌, ℕ, Bool, true, List, [], ◌∷◌, ◌++◌}
use Rattle.logbook.specs.Pages.{Book}
use Rattle.filter_core.specs.Lanes.{RisesFrom}
use Rattle.filter_core.specs.declared.install.Install.{Install}

-- the numbers rise by one
abbrev pub RisesByOne : List Install → Type 0
RisesByOne log = (n : ℕ) × RisesFrom n log

-- the install is the list's last
abbrev pub HasLast : List Install → Install → Type 0
HasLast log i = (before : List Install) × (log ≡ before ++ i ∷ [])

-- a beginning of a board's list of installs
pub record History : Type 0 where
  pub board : Book
  pub installs : List Install

abbrev pub history : Book → List Install → History
history b is = record { board = b; installs = is }

-- the last install has this number
abbrev pub LastNumber : List Install → ℕ → Type 0
LastNumber log n = (last : Install) × HasLast log last × (last.number ≡ n)

-- what contracts see of an installer
pub record InstallerState : Type 0 where
  pub board : Book
  pub published : List Install
  pub live : Bool

-- an installer that may publish
abbrev pub live_installer : Book → List Install → InstallerState
live_installer b is = record { board = b; published = is; live = true }
