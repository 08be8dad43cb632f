-- The lines of a report: one for each entry, with its line feed. This project's own format.
use Rattle.std.specs.Prelude.{ℕ, ◌+◌, ◌-◌, ◌==◌, Bool, true, false, if◌then◌else◌, List, [], ◌∷◌, ◌++◌, get_or, map, flat_map, Option, Some, None}
use Rattle.data_counters.specs.Counters.{all_counters}
use Rattle.data_counters.specs.Memory.{value_of}
use Rattle.data_counters.specs.declared.counter.Counter.{Counter}
use Rattle.policy_state.specs.declared.basis.Answer.{Answer}
use Rattle.policy_state.specs.Whole.{verdict_of, counter_of_fate}
use Rattle.ra_records.specs.declared.replies.RaReply.{RaReply}
use Rattle.filter_core.specs.Calls.{advert_installs}
use Rattle.filter_core.specs.Steps.{Answered}
use Rattle.filter_core.specs.Replay.{Entry, install, reply, answer, learnt, counted, total}
use Rattle.filter_core.specs.declared.install.Install.{Install}
use Rattle.script_text.specs.Report.{gen_line, update_line, frame_line, ra_line, counted_line, total_line}

-- an answer with its number of steps
abbrev pub with_steps : Answered → ℕ → Answer
with_steps a steps = record { number = a.number; age = a.age; verdict = verdict_of a.fate; counter = counter_of_fate a.fate; steps = steps }

-- The line of an entry, given all codes and all numbers of steps. An install prints the code of its number, which counts
-- from 0, and the answer to a frame the steps of the frame's number, which counts from 1.
abbrev pub entry_line : List (List ℕ) → List ℕ → Entry → List ℕ
entry_line programs steps (install i) = gen_line i.number i.at i.left (get_or programs i.number [])
entry_line programs steps (reply r clock) = update_line r clock
entry_line programs steps (answer k a) = frame_line k None (with_steps a (get_or steps (k - 1) 0))
entry_line programs steps (learnt k r) = ra_line k r
entry_line programs steps (counted c n) = counted_line c n
entry_line programs steps (total frames passed installs) = total_line frames passed installs

-- the lines of entries, in order
unfoldable pub entry_lines : List (List ℕ) → List ℕ → List Entry → List (List ℕ)
entry_lines programs steps entries = map (entry_line programs steps) entries

-- the lines of a counter of a memory: one, or none where it is 0
abbrev pub lines_of_counter : List ℕ → Counter → List (List ℕ)
lines_of_counter memory c = if value_of c memory == 0 then [] else counted_line c (value_of c memory) ∷ []

-- the last lines: the counters by their numbers, and the totals
abbrev pub last_lines : List ℕ → ℕ → ℕ → ℕ → List (List ℕ)
last_lines memory frames passed installs = flat_map (lines_of_counter memory) all_counters ++ total_line frames passed installs ∷ []

-- the lines of what was learnt from frame k: the reply's, and that of an install where there is a new one
abbrev pub lines_learnt : ℕ → Option RaReply → Install → List (List ℕ)
lines_learnt k None i = []
lines_learnt k (Some r) i = ra_line k r ∷ (if advert_installs r then gen_line i.number i.at i.left i.code ∷ [] else [])

-- one more where this is so
abbrev pub with_one : Bool → ℕ → ℕ
with_one true n = n + 1
with_one false n = n
