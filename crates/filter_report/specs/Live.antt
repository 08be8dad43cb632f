-- The report of a script over frames that lanes answer, beside the installs of the script.
use Rattle.std.specs.Prelude.{◌≡◌, ℕ, ◌+◌, ◌-◌, ◌%◌, List, [], ◌∷◌, ◌++◌, length, map, count_by, Some}
use Rattle.dealt_items.specs.Dealing.{dealt, woven}
use Rattle.dealt_items.specs.Sums.{IsSumOf}
use Rattle.policy_state.specs.declared.basis.Answer.{Answer}
use Rattle.policy_state.specs.declared.basis.Script.{Script}
use Rattle.filter_core.specs.declared.install.Install.{Install}
use Rattle.filter_core.specs.Coded.{plain}
use Rattle.filter_core.specs.Lanes.{LanesRun, codes_of}
use Rattle.filter_core.specs.Replay.{Arrival, Entry, installs_of, passes}
use Rattle.script_text.specs.Report.{frame_line}
use Rattle.filter_report.specs.Report.{AllFit}
use Rattle.filter_report.specs.Scripted.{events_told}
use Rattle.filter_report.specs.Text.{entry_lines, last_lines}

-- Frame k, which counts from 1, is answered by lane 1 + (k - 1) mod the number of lanes.
abbrev pub lane_of : ℕ → ℕ → ℕ
lane_of lanes k = 1 + (k - 1) % lanes

abbrev pub lane_line : ℕ → ℕ → Answer → List ℕ
lane_line lanes k a = frame_line k (Some (lane_of lanes k)) a

-- the lines of answers, the first of which is that of frame k
abbrev pub lane_lines : ℕ → ℕ → List Answer → List (List ℕ)
lane_lines lanes k [] = []
lane_lines lanes k (a ∷ later) = lane_line lanes k a ∷ lane_lines lanes (k + 1) later

-- how many of them pass
abbrev pub passed_of : List Answer → ℕ
passed_of answers = count_by (λ a. passes a.verdict) answers

-- The lines of a live run: those of the events with the codes of their installs, those of the frames in their order, and
-- the counters of all lanes with the totals.
abbrev pub live_lines : List Entry → List Install → ℕ → List Answer → List ℕ → List (List ℕ)
live_lines told installs lanes answers sum =
    entry_lines (codes_of installs) [] told
    ++ (lane_lines lanes 1 answers ++ last_lines sum (length answers) (passed_of answers) (length installs))

-- THE REPORT OF A LIVE RUN, a relation: when a lane sees an install isn't determined.
pub record IsLive (script : Script) (arrivals : List Arrival) (lanes : ℕ) (lines : List (List ℕ)) : Type 0 where
  -- the installs of the script, with codes that are right for them
  pub installs : List Install
  pub are : map plain installs ≡ installs_of (events_told script)
  pub fit : AllFit (codes_of installs) (installs_of (events_told script))
  -- what each lane answered to the frames that it was dealt, and the memory that they left
  pub answers : List (List Answer)
  pub memories : List (List ℕ)
  pub run : LanesRun installs (dealt lanes arrivals) answers memories
  -- the counters of all lanes
  pub sum : List ℕ
  pub summed : IsSumOf memories sum
  pub telling : lines ≡ live_lines (events_told script) installs lanes (woven (length arrivals) answers) sum
