-- The events of a script alone: its installs, and its lines.
use Rattle.std.specs.Prelude.{◌≡◌, ℕ, ◌+◌, ◌<◌, List, [], ◌++◌, length, map}
use Rattle.policy_state.specs.declared.basis.Script.{Script}
use Rattle.filter_core.specs.declared.install.Install.{Install}
use Rattle.filter_core.specs.Coded.{plain}
use Rattle.filter_core.specs.Lanes.{RisesFrom, codes_of}
use Rattle.filter_core.specs.Replay.{Course, Entry, begun, finished, installs_of}
use Rattle.filter_core.specs.Standing.{Standing, filter_of}
use Rattle.filter_report.specs.Report.{AllFit}
use Rattle.filter_report.specs.Text.{entry_lines}

-- the entries of a script's events alone: no frame comes, and nothing is learnt
abbrev pub events_told : Script → List Entry
events_told script = (finished (begun script)).told

-- These are the installs of the script, of which there is one at least, with codes that are right for them. Their numbers
-- count from 0. The lines are those of the script's entries.
pub record HasTold (script : Script) (installs : List Install) (lines : List (List ℕ)) : Type 0 where
  pub are : map plain installs ≡ installs_of (events_told script)
  pub fit : AllFit (codes_of installs) (installs_of (events_told script))
  pub numbers : RisesFrom 0 installs
  pub some : 0 < length installs
  pub telling : lines ≡ entry_lines (codes_of installs) [] (events_told script)

-- A core goes along with a course that takes events alone: these are its installs and its lines so far, whatever codes
-- come later. The last of the installs is the one that stands.
pub record HasListed (c : Course) (core : Standing) (installs : List Install) (lines : List (List ℕ)) : Type 0 where
  pub are : map plain installs ≡ installs_of c.told
  pub numbers : RisesFrom 0 installs
  pub count : length installs ≡ core.install.number + 1
  pub at : filter_of core ≡ c.filter
  pub telling : (more : List (List ℕ)) (steps : List ℕ) → lines ≡ entry_lines (codes_of installs ++ more) steps c.told
