-- What holds between the lines of a report: the lines so far tell the entries so far, whatever codes and steps come later.
use Rattle.std.specs.Prelude.{◌≡◌, ℕ, ◌+◌, List, [], ◌++◌, length, get_or, replicate}
use Rattle.policy_state.specs.declared.basis.Timed.{Timed}
use Rattle.policy_state.specs.declared.config.Config.{Config}
use Rattle.filter_core.specs.Steps.{first}
use Rattle.filter_core.specs.Standing.{Standing, filter_of}
use Rattle.filter_core.specs.Tally.{memory_of, raised_by}
use Rattle.filter_core.specs.Replay.{Course, answers_of, installs_of, passed}
use Rattle.filter_report.specs.Text.{entry_lines}
use Rattle.filter_report.specs.Report.{AllFit, steps_from}
use Rattle.apf_base.specs.Limits.{memory_size}

-- A core goes along with a course: it stands where the course is, and the lines so far tell it.
pub record Along (c : Course) (core : Standing) (frames lines : List (List ℕ)) : Type 0 where
  -- the codes so far, the last of which is the one that stands
  pub programs : List (List ℕ)
  pub fit : AllFit programs (installs_of c.told)
  pub stands : get_or programs core.install.number [] ≡ core.install.code
  pub count : length programs ≡ core.install.number + 1
  -- the core is where the course is, and its counters are those of the answers so far
  pub at : filter_of core ≡ c.filter
  pub memory : core.memory ≡ memory_of (raised_by (answers_of c.told))
  -- each frame has its answer
  pub answered : length frames ≡ length (answers_of c.told)
  pub taken : c.frames ≡ length frames
  pub telling : (more : List (List ℕ)) (later : List ℕ) →
      lines ≡ entry_lines (programs ++ more) (steps_from (programs ++ more) [] (answers_of c.told) frames ++ later) c.told

-- a filter that is reporting: its core, the events that are left, how many frames were taken, and how many passed
pub record Reporting : Type 0 where
  pub core : Standing
  pub left : List Timed
  pub frames : ℕ
  pub passed : ℕ

-- it goes along with a course
pub record InCourse (c : Course) (f : Reporting) (frames lines : List (List ℕ)) : Type 0 where
  pub along : Along c f.core frames lines
  pub events : c.events ≡ f.left
  pub frames_taken : f.frames ≡ length frames
  pub frames_passed : f.passed ≡ passed (answers_of c.told)

-- a core at its start, with counters of zeros
pub record IsFirstCore (config : Config) (now : ℕ) (core : Standing) : Type 0 where
  pub filter : filter_of core ≡ first config now
  pub memory : core.memory ≡ replicate memory_size 0
