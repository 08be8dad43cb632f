-- Installs are numbered in the order in which they are told, and answers name the last one.
use Rattle.std.proofs.Common.{◌≡◌, ℕ, ◌+◌, ◌<◌, ◌≤◌, ◌==◌, nat_lt, slice_index, Bool, true, false, cond, List, [], ◌∷◌, ◌++◌, length, flat_map, fold, All, Option, Some, None, Result, Ok, Err, refl, ap, subst, ◌∙◌, arith}
use Rattle.std.proofs.lemmas.List.Elements.{All-cons}
use Rattle.data_counters.specs.Counters.{all_counters}
use Rattle.data_counters.specs.declared.counter.Counter.{Counter}
use Rattle.policy_state.specs.declared.basis.Script.{Script}
use Rattle.policy_state.specs.declared.basis.Timed.{Timed}
use Rattle.policy_state.specs.declared.basis.UpdateReply.{UpdateReply}
use Rattle.policy_state.specs.declared.basis.UpdateReply.TheVariants as updates
use Rattle.policy_state.specs.declared.state.FilterState.{FilterState}
use Rattle.policy_state.specs.declared.update.StateError.{StateError}
use Rattle.policy_state.specs.declared.update.Update.{Update}
use Rattle.policy_state.specs.Effects.{after, is_same}
use Rattle.ra_records.specs.Advert.{Advert, advert, least}
use Rattle.ra_records.specs.declared.replies.RaReply.{RaReply}
use Rattle.ra_records.specs.declared.replies.RaReply.TheVariants as adverts
use Rattle.ra_records.specs.declared.span.RaError.{RaError}
use Rattle.size_fit.specs.Sizes.{base, limit_of}
use Rattle.filter_core.specs.Calls.{update_installs, advert_installs}
use Rattle.filter_core.specs.Installs.{install_of, end_of}
use Rattle.filter_core.specs.Records.{standing, match_of, ids_of, to_front, with_last, is_full}
use Rattle.filter_core.specs.Replay.{Arrival, Entry, install, reply, answer, learnt, counted, total, Course, tells, after_event, is_due, after_due, after_learning, after_frame, after_arrival, is_learnt, answers_of, installs_of, counted_in, totals, AreByLast, begun, course, replay}
use Rattle.filter_core.specs.Tally.{times_raised, raised_by}
use Rattle.filter_core.specs.Steps.{Filter, Answered, moved, config_of, reinstalled, by_state, updated, is_ending, by_match, by_reading, advertised, answer_of}

-- ---- steps

-- a filter after a step that installed or didn't
abbrev Counts : Bool → Filter → Filter → Type 0
Counts installs old new = new.install.number ≡ cond installs (old.install.number + 1) old.install.number

number-reinstalled : (f : Filter) (state : FilterState) → (reinstalled f state).install.number ≡ f.install.number + 1
unfolding install_of
number-reinstalled f state = refl

abbrev UpdateCounts : Filter → Filter × UpdateReply → Type 0
UpdateCounts f after = Counts (update_installs after.1) f after.0

state_counts : (t : Bool) (f : Filter) (state : FilterState) (need limit : ℕ) →
    UpdateCounts f (cond t (f, updates.NotInstalled need limit) (reinstalled f state, updates.Installed))
state_counts true f state need limit = refl
state_counts false f state need limit = number-reinstalled f state

effect_counts : (f : Filter) (same : Bool) (r : Result FilterState StateError) → UpdateCounts f (by_state f same r)
effect_counts f same (Err refusal) = refl
effect_counts f true (Ok state) = refl
effect_counts f false (Ok state) =
    let need = base (config_of f) state in
    let limit = limit_of (config_of f) in
    state_counts (nat_lt limit need) f state need limit

pub updated_counts : (f : Filter) (u : Update) (now : ℕ) → UpdateCounts f (updated f u now)
updated_counts f u now = effect_counts (moved f now) (is_same f.install.basis.state u) (after f.install.basis.state u)

abbrev AdvertCounts : Filter → Filter × RaReply → Type 0
AdvertCounts f after = Counts (advert_installs after.1) f after.0

again_counts : (t : Bool) (f g : Filter) (state : FilterState) (id : ℕ) → g.install.number ≡ f.install.number →
    AdvertCounts f (cond t (reinstalled g state, adverts.Refreshed id) (g, adverts.Match id))
again_counts true f g state id e = number-reinstalled g state ∙ ap (λ (n : ℕ). n + 1) e
again_counts false f g state id e = e

first_counts : (full none : Bool) (f g : Filter) (state : FilterState) (id : ℕ) → g.install.number ≡ f.install.number →
    AdvertCounts f (cond full (f, adverts.Full) (cond none (f, adverts.ZeroLifetime) (reinstalled g state, adverts.New id)))
first_counts true none f g state id e = refl
first_counts false true f g state id e = refl
first_counts false false f g state id e = number-reinstalled g state ∙ ap (λ (n : ℕ). n + 1) e

match_counts : (f : Filter) (seen : Advert) (place : Option ℕ) → AdvertCounts f (by_match f seen place)
match_counts f seen None =
    let g : Filter = record f { held = with_last f.held (record { id = f.added + 1; advert = seen }); added = f.added + 1 } in
    first_counts (is_full f.held) (least seen == 0) f g f.install.basis.state (f.added + 1) refl
match_counts f seen (Some place) =
    let g : Filter = record f { held = to_front place seen f.held } in
    again_counts (is_ending f.clock (end_of f.install)) f g f.install.basis.state (slice_index (ids_of f.held) place) refl

reading_counts : (f : Filter) (frame : List ℕ) (r : Result Advert RaError) → AdvertCounts f (by_reading f frame r)
reading_counts f frame (Err refusal) = refl
reading_counts f frame (Ok seen) =
    let left = standing f.clock f.held in
    match_counts (record f { held = left }) seen (match_of frame left)

pub advertised_counts : (f : Filter) (frame : List ℕ) (now : ℕ) → AdvertCounts f (advertised f frame now)
advertised_counts f frame now = let g = moved f now in reading_counts g frame (advert frame g.clock)

-- ---- entries

abbrev pub programs : List Entry → ℕ
programs told = length (installs_of told)

programs-append : (xs ys : List Entry) → programs (xs ++ ys) ≡ programs xs + programs ys
programs-append [] ys = omega arith
programs-append (install i ∷ xs) ys = let later = programs-append xs ys in omega arith
programs-append (answer k a ∷ xs) ys = programs-append xs ys
programs-append (reply r clock ∷ xs) ys = programs-append xs ys
programs-append (learnt k r ∷ xs) ys = programs-append xs ys
programs-append (counted c n ∷ xs) ys = programs-append xs ys
programs-append (total frames passed all ∷ xs) ys = programs-append xs ys

from : (m n : ℕ) (ys : List Entry) → m ≡ n → AreByLast m ys → AreByLast n ys
from m n ys e h = subst (λ (k : ℕ). AreByLast k ys) e h

by_last-append : (n : ℕ) (xs ys : List Entry) → AreByLast n xs → AreByLast (n + programs xs) ys → AreByLast n (xs ++ ys)
by_last-append n [] ys h k = from (n + 0) n ys (omega arith) k
by_last-append n (install i ∷ xs) ys h k = (h.0, by_last-append (n + 1) xs ys h.1 (from (n + programs (install i ∷ xs)) (n + 1 + programs xs) ys (omega arith) k))
by_last-append n (answer m a ∷ xs) ys h k = (h.0, by_last-append n xs ys h.1 k)
by_last-append n (reply r clock ∷ xs) ys h k = by_last-append n xs ys h k
by_last-append n (learnt m r ∷ xs) ys h k = by_last-append n xs ys h k
by_last-append n (counted c m ∷ xs) ys h k = by_last-append n xs ys h k
by_last-append n (total frames passed all ∷ xs) ys h k = by_last-append n xs ys h k

-- ---- the course

-- what was told is so, and the install that stands was told last
pub record IsNumbered (c : Course) : Type 0 where
  pub by_last : AreByLast 0 c.told
  pub last : c.filter.install.number + 1 ≡ programs c.told

-- more is told, and the install that stands was told last in it, or stays
told_more : (c : Course) (f : Filter) (entries : List Entry) → IsNumbered c → AreByLast (programs c.told) entries →
    f.install.number ≡ c.filter.install.number + programs entries → IsNumbered (tells c f entries)
told_more c f entries h by number = record {
  by_last = by_last-append 0 c.told entries h.by_last (from (programs c.told) (0 + programs c.told) entries (omega arith) by);
  last = omega (arith, programs-append c.told entries, h.last);
}

event_told : (t : Bool) (c : Course) (f : Filter) (r : UpdateReply) (clock : ℕ) → IsNumbered c → Counts t c.filter f →
    IsNumbered (tells c f (cond t (install f.install ∷ []) (reply r clock ∷ [])))
event_told true c f r clock h e = told_more c f (install f.install ∷ []) h (e ∙ h.last, tt) e
event_told false c f r clock h e = told_more c f (reply r clock ∷ []) h tt (omega (arith, e))

event_numbered : (c : Course) (event : Timed) → IsNumbered c → IsNumbered (after_event c event)
event_numbered c event h =
    let after = updated c.filter event.update event.time in
    event_told (update_installs after.1) c after.0 after.1 after.0.clock h (updated_counts c.filter event.update event.time)

due_numbered : (second : ℕ) (c : Course) (events : List Timed) → IsNumbered c → IsNumbered (after_due second c events)
due_numbered second c [] h = record { by_last = h.by_last; last = h.last }
due_numbered second c (event ∷ later) h =
    by_test (is_due second event) (after_due second (after_event c event) later) (record c { events = event ∷ later })
    (due_numbered second (after_event c event) later (event_numbered c event h))
    (record { by_last = h.by_last; last = h.last })
  where
    by_test : (t : Bool) (c d : Course) → IsNumbered c → IsNumbered d → IsNumbered (cond t c d)
    by_test true c d h k = h
    by_test false c d h k = k

advert_told : (t : Bool) (c : Course) (f : Filter) (r : RaReply) → IsNumbered c → Counts t c.filter f →
    IsNumbered (tells c f (cond t (learnt c.frames r ∷ install f.install ∷ []) (learnt c.frames r ∷ [])))
advert_told true c f r h e = told_more c f (learnt c.frames r ∷ install f.install ∷ []) h (e ∙ h.last, tt) e
advert_told false c f r h e = told_more c f (learnt c.frames r ∷ []) h tt (omega (arith, e))

learning_numbered : (c : Course) (arrival : Arrival) → IsNumbered c → IsNumbered (after_learning c arrival)
learning_numbered c arrival h =
    let after = advertised c.filter arrival.frame arrival.second in
    advert_told (advert_installs after.1) c after.0 after.1 h (advertised_counts c.filter arrival.frame arrival.second)

frame_numbered : (c : Course) (arrival : Arrival) → IsNumbered c → IsNumbered (after_frame c arrival)
frame_numbered c arrival h =
    let f = moved c.filter arrival.second in
    let a = answer_of f.install arrival.frame f.clock in
    let told : IsNumbered (tells c f (answer (c.frames + 1) a ∷ [])) = told_more c f (answer (c.frames + 1) a ∷ []) h (h.last, tt) (omega arith) in
    let d = record (tells c f (answer (c.frames + 1) a ∷ [])) { frames = c.frames + 1 } in
    let numbered : IsNumbered d = record { by_last = told.by_last; last = told.last } in
    by_test (is_learnt a arrival.frame) (after_learning d arrival) d (learning_numbered d arrival numbered) numbered
  where
    by_test : (t : Bool) (c d : Course) → IsNumbered c → IsNumbered d → IsNumbered (cond t c d)
    by_test true c d h k = h
    by_test false c d h k = k

arrivals_numbered : (c : Course) (arrivals : List Arrival) → IsNumbered c → IsNumbered (fold after_arrival c arrivals)
arrivals_numbered c [] h = h
arrivals_numbered c (arrival ∷ later) h =
    arrivals_numbered (after_arrival c arrival) later (frame_numbered (after_due arrival.second c c.events) arrival (due_numbered arrival.second c c.events h))

events_numbered : (c : Course) (events : List Timed) → IsNumbered c → IsNumbered (fold after_event c events)
events_numbered c [] h = h
events_numbered c (event ∷ later) h = events_numbered (after_event c event) later (event_numbered c event h)

begun_numbered : (script : Script) → IsNumbered (begun script)
unfolding install_of
begun_numbered script = record { by_last = (refl, tt); last = refl }

pub course_numbered : (script : Script) (arrivals : List Arrival) → IsNumbered (course script arrivals)
unfolding course
course_numbered script arrivals = arrivals_numbered (begun script) arrivals (begun_numbered script)

-- ---- the whole

counted_by_last : (t : Bool) (n : ℕ) (c : Counter) (k : ℕ) (rest last : List Entry) → AreByLast n (rest ++ last) →
    AreByLast n (cond t [] (counted c k ∷ []) ++ rest ++ last)
counted_by_last true n c k rest last h = h
counted_by_last false n c k rest last h = h

counts_by_last : (n : ℕ) (answers : List Answered) (cs : List Counter) (frames passed all : ℕ) →
    AreByLast n (flat_map (counted_in answers) cs ++ total frames passed all ∷ [])
counts_by_last n answers [] frames passed all = tt
counts_by_last n answers (c ∷ cs) frames passed all =
    let k = times_raised (raised_by answers) c in
    counted_by_last (k == 0) n c k (flat_map (counted_in answers) cs) (total frames passed all ∷ []) (counts_by_last n answers cs frames passed all)

pub replay_by_last : (script : Script) (arrivals : List Arrival) → AreByLast 0 (replay script arrivals)
replay_by_last script arrivals =
    let c = course script arrivals in
    let h = events_numbered c c.events (course_numbered script arrivals) in
    let told = (fold after_event c c.events).told in
    by_last-append 0 told (totals told) h.by_last (counts_by_last _ (answers_of told) all_counters _ _ _)

-- so each answer is by one of the installs
answers_below : (n bound : ℕ) (told : List Entry) → AreByLast n told → n + programs told ≤ bound → All (λ a. a.number < bound) (answers_of told)
answers_below n bound [] h le = λ k d lt. absurd (omega arith)
answers_below n bound (install i ∷ told) h le = answers_below (n + 1) bound told h.1 (omega arith)
answers_below n bound (answer k a ∷ told) h le = All-cons (λ (b : Answered). b.number < bound) a (answers_of told) (omega (arith, h.0)) (answers_below n bound told h.1 le)
answers_below n bound (reply r clock ∷ told) h le = answers_below n bound told h le
answers_below n bound (learnt k r ∷ told) h le = answers_below n bound told h le
answers_below n bound (counted c k ∷ told) h le = answers_below n bound told h le
answers_below n bound (total frames passed all ∷ told) h le = answers_below n bound told h le

pub replay_below : (script : Script) (arrivals : List Arrival) → All (λ a. a.number < programs (replay script arrivals)) (answers_of (replay script arrivals))
replay_below script arrivals =
    let told = replay script arrivals in
    answers_below 0 (programs told) told (replay_by_last script arrivals) (omega arith)
