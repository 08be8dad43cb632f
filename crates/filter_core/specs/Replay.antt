-- The replay of a script over frames: what a report tells, entry by entry. No code, no memory and no bytes of a program
-- stand here.
use Rattle.std.specs.Prelude.{◌≡◌, ℕ, ◌+◌, ◌==◌, nat_le, Bool, true, false, ◌&&◌, if◌then◌else◌, List, [], ◌∷◌, ◌++◌, length, drop, fold, flat_map, count_by}
use Rattle.apf_coding.specs.declared.machine.Verdict.{Verdict}
use Rattle.apf_coding.specs.declared.machine.Verdict.TheVariants.{Pass, Drop}
use Rattle.data_counters.specs.Counters.{all_counters}
use Rattle.data_counters.specs.declared.counter.Counter.{Counter}
use Rattle.policy_state.specs.declared.basis.Script.{Script}
use Rattle.policy_state.specs.declared.basis.Timed.{Timed}
use Rattle.policy_state.specs.declared.basis.UpdateReply.{UpdateReply}
use Rattle.policy_state.specs.Whole.{verdict_of}
use Rattle.ra_records.specs.Advert.{candidate}
use Rattle.ra_records.specs.declared.replies.RaReply.{RaReply}
use Rattle.filter_core.specs.Calls.{update_installs, advert_installs}
use Rattle.filter_core.specs.Installs.{Installed}
use Rattle.filter_core.specs.Steps.{Filter, Answered, first, moved, updated, advertised, answer_of}
use Rattle.filter_core.specs.Tally.{times_raised, raised_by}

-- a frame and the second of its time
pub record Arrival : Type 0 where
  pub second : ℕ
  pub frame : List ℕ

-- what a report tells of
pub data Entry : Type 0 where
  install : Installed → Entry
  -- the reply of an update that installed nothing, and the clock after it
  reply : UpdateReply → ℕ → Entry
  -- the number of a frame, from 1 on, and its answer
  answer : ℕ → Answered → Entry
  -- the number of a frame that was given to be learnt, and the reply
  learnt : ℕ → RaReply → Entry
  -- a counter that isn't 0
  counted : Counter → ℕ → Entry
  -- how many frames, passed frames and installs
  total : ℕ → ℕ → ℕ → Entry

-- the filter, the events that are left, how many frames were taken, and what was told so far
pub record Course : Type 0 where
  pub filter : Filter
  pub events : List Timed
  pub frames : ℕ
  pub told : List Entry

abbrev pub tells : Course → Filter → List Entry → Course
tells c f entries = record c { filter = f; told = c.told ++ entries }

-- ---- an event

-- an update is told by its install, or else by its reply
abbrev pub update_entries : Filter × UpdateReply → List Entry
update_entries after = if update_installs after.1 then install after.0.install ∷ [] else reply after.1 after.0.clock ∷ []

-- an update at its own time
abbrev pub after_event : Course → Timed → Course
after_event c event = let after = updated c.filter event.update event.time in tells c after.0 (update_entries after)

abbrev pub is_due : ℕ → Timed → Bool
is_due second event = nat_le event.time second

-- the events at the front of a list that are due at a second, one after another; the others are left
abbrev pub after_due : ℕ → Course → List Timed → Course
after_due second c [] = record c { events = [] }
after_due second c (event ∷ later) = if is_due second event then after_due second (after_event c event) later else record c { events = event ∷ later }

-- ---- a frame

-- a learnt frame is told by the reply, and then by the install where there is a new one
abbrev pub learnt_entries : ℕ → Filter × RaReply → List Entry
learnt_entries k after = if advert_installs after.1 then learnt k after.1 ∷ install after.0.install ∷ [] else learnt k after.1 ∷ []

abbrev pub passes : Verdict → Bool
passes Pass = true
passes Drop = false

-- a frame is given to be learnt where it passes and may be an advertisement
abbrev pub is_learnt : Answered → List ℕ → Bool
is_learnt a frame = passes (verdict_of a.fate) && candidate frame

abbrev pub after_learning : Course → Arrival → Course
after_learning c arrival =
    let after = advertised c.filter arrival.frame arrival.second in
    tells c after.0 (learnt_entries c.frames after)

-- the frame is answered by the install that stands, at the clock's time
abbrev pub after_frame : Course → Arrival → Course
after_frame c arrival =
    let f = moved c.filter arrival.second in
    let a = answer_of f.install arrival.frame f.clock in
    let d = record (tells c f (answer (c.frames + 1) a ∷ [])) { frames = c.frames + 1 } in
    if is_learnt a arrival.frame then after_learning d arrival else d

-- the events due at the frame's second, and then the frame
abbrev pub after_arrival : Course → Arrival → Course
after_arrival c arrival = after_frame (after_due arrival.second c c.events) arrival

-- ---- the end

abbrev pub answers_of : List Entry → List Answered
answers_of [] = []
answers_of (answer k a ∷ entries) = a ∷ answers_of entries
answers_of (install i ∷ entries) = answers_of entries
answers_of (reply r clock ∷ entries) = answers_of entries
answers_of (learnt k r ∷ entries) = answers_of entries
answers_of (counted c n ∷ entries) = answers_of entries
answers_of (total frames passed programs ∷ entries) = answers_of entries

abbrev pub installs_of : List Entry → List Installed
installs_of [] = []
installs_of (install i ∷ entries) = i ∷ installs_of entries
installs_of (answer k a ∷ entries) = installs_of entries
installs_of (reply r clock ∷ entries) = installs_of entries
installs_of (learnt k r ∷ entries) = installs_of entries
installs_of (counted c n ∷ entries) = installs_of entries
installs_of (total frames passed programs ∷ entries) = installs_of entries

-- a counter that answers raised
abbrev pub counted_in : List Answered → Counter → List Entry
counted_in answers c = let n = times_raised (raised_by answers) c in if n == 0 then [] else counted c n ∷ []

-- how many answers pass
abbrev pub passed : List Answered → ℕ
passed answers = count_by (λ a. passes (verdict_of a.fate)) answers

-- each counter that isn't 0, by number, and how many frames, passed frames and installs there are
abbrev pub totals : List Entry → List Entry
totals told =
    let answers = answers_of told in
    flat_map (counted_in answers) all_counters ++ total (length answers) (passed answers) (length (installs_of told)) ∷ []

-- Installs are numbered from a number on, and each answer is by the install that is told last before it, of which there
-- were so many.
abbrev pub AreByLast : ℕ → List Entry → Type 0
AreByLast programs [] = Unit {0}
AreByLast programs (install i ∷ later) = (i.number ≡ programs) × AreByLast (programs + 1) later
AreByLast programs (answer k a ∷ later) = (a.number + 1 ≡ programs) × AreByLast programs later
AreByLast programs (reply r clock ∷ later) = AreByLast programs later
AreByLast programs (learnt k r ∷ later) = AreByLast programs later
AreByLast programs (counted c n ∷ later) = AreByLast programs later
AreByLast programs (total frames passed installs ∷ later) = AreByLast programs later

-- ---- the whole

-- the filter at its start, and its install
abbrev pub begun : Script → Course
begun script =
    let f = first script.config script.start in
    record { filter = f; events = script.events; frames = 0; told = install f.install ∷ [] }

-- the course up to the last frame's entries
unfoldable pub course : Script → List Arrival → Course
course script arrivals = fold after_arrival (begun script) arrivals

-- all events that are left, after the last frame
abbrev pub finished : Course → Course
finished c = record (fold after_event c c.events) { events = [] }

-- the entries up to the last frame's
abbrev pub story : Script → List Arrival → List Entry
story script arrivals = (course script arrivals).told

-- all entries
abbrev pub replay : Script → List Arrival → List Entry
replay script arrivals = let told = (finished (course script arrivals)).told in told ++ totals told

-- the entries behind the last frame's: those of the events that are left, and the totals
abbrev pub ending : Script → List Arrival → List Entry
ending script arrivals = drop (length (story script arrivals)) (replay script arrivals)
