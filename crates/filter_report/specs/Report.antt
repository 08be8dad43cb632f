-- The report of a script over frames: what a filter writes.
use Rattle.std.specs.Prelude.{◌≡◌, ℕ, ◌≤◌, List, [], ◌∷◌, ◌++◌, length, get_or}
use Rattle.apf_coding.specs.Run.{run}
use Rattle.apf_generate.specs.Means.{Means}
use Rattle.apf_coding.specs.Words.{AreBytes}
use Rattle.apf_generate.specs.Sizes.{need_of}
use Rattle.data_counters.specs.declared.counter.Counter.{Counter}
use Rattle.policy_state.specs.declared.basis.Basis.{Basis}
use Rattle.policy_state.specs.declared.basis.Script.{Script}
use Rattle.size_fit.specs.Sizes.{limit_of}
use Rattle.filter_core.specs.Installs.{Installed}
use Rattle.filter_core.specs.Steps.{Answered}
use Rattle.filter_core.specs.Tally.{raises, memory_of}
use Rattle.filter_core.specs.Replay.{Arrival, Course, Entry, answers_of, installs_of, finished, totals, replay, story}
use Rattle.filter_core.specs.Arrivals.{frames_of}
use Rattle.filter_report.specs.Text.{entry_lines}

-- A program for the basis has room.
abbrev pub HasRoom : Basis → Type 0
HasRoom basis = need_of basis ≤ limit_of basis.config

-- A code is right for an install: it is of bytes, means the basis, and is no longer than the base and the weights of the
-- chosen records, for which the device has room.
pub record Fits (code : List ℕ) (i : Installed) : Type 0 where
  pub means : Means code i.basis
  pub size : length code ≤ need_of i.basis
  pub room : HasRoom i.basis
  pub bytes : AreBytes code

-- each install has its code, in order
abbrev pub AllFit : List (List ℕ) → List Installed → Type 0
AllFit [] [] = Unit {0}
AllFit (code ∷ programs) (i ∷ installs) = Fits code i × AllFit programs installs
AllFit programs installs = ⊥

-- The numbers of steps. Each answer's is that of the run of its install's code on the frame, over the memory that holds
-- the counts of the answers before it.
abbrev pub steps_from : List (List ℕ) → List Counter → List Answered → List (List ℕ) → List ℕ
steps_from programs raised [] frames = []
steps_from programs raised (a ∷ answers) [] = []
steps_from programs raised (a ∷ answers) (frame ∷ frames) =
    (run (get_or programs a.number []) (memory_of raised) frame a.age).outcome.steps
    ∷ steps_from programs (raised ++ raises a.fate) answers frames

-- Lines tell entries about these frames: there are codes that are right for the installs, and the lines are those of the
-- entries with these codes and with the steps of their runs.
pub record Tells (entries : List Entry) (frames lines : List (List ℕ)) : Type 0 where
  pub programs : List (List ℕ)
  pub fit : AllFit programs (installs_of entries)
  pub telling : lines ≡ entry_lines programs (steps_from programs [] (answers_of entries) frames) entries

-- THE REPORT: the lines of a script over all frames, with the totals
abbrev pub IsReport : Script → List Arrival → List (List ℕ) → Type 0
IsReport script arrivals lines = Tells (replay script arrivals) (frames_of arrivals) lines

-- the lines up to those of the last frame, as they stand where a capture is refused behind it
abbrev pub IsStory : Script → List Arrival → List (List ℕ) → Type 0
IsStory script arrivals lines = Tells (story script arrivals) (frames_of arrivals) lines

-- all entries of a course that ends: the events that are left, and the totals
abbrev pub ended : Course → List Entry
ended c = let told = (finished c).told in told ++ totals told

-- There are codes that are right for these installs, one each.
abbrev pub AllHaveCodes : List Installed → Type 0
AllHaveCodes [] = Unit {0}
AllHaveCodes (i ∷ installs) = ((code : List ℕ) × Fits code i) × AllHaveCodes installs

-- Lines with which a text of these entries begins, whatever comes behind them: for all further entries and frames there
-- are lines that end the text, where there is a code for each install.
abbrev pub Leads : List Entry → List (List ℕ) → List (List ℕ) → Type 0
Leads told frames lines =
    (more : List Entry) (later : List (List ℕ)) → AllHaveCodes (installs_of (told ++ more))
    → (rest : List (List ℕ)) × Tells (told ++ more) (frames ++ later) (lines ++ rest)
