-- What holds of each install that a course tells of, where each step keeps it.
use Rattle.std.proofs.Common.{◌≡◌, ℕ, ◌+◌, Bool, true, false, cond, List, [], ◌∷◌, ◌++◌, flat_map, fold, All, refl, sym, ap, subst, ◌∙◌, append_assoc, append-nil}
use Rattle.std.proofs.lemmas.List.Elements.{All-nil, All-cons, All-head, All-tail, All-append}
use Rattle.data_counters.specs.Counters.{all_counters}
use Rattle.data_counters.specs.declared.counter.Counter.{Counter}
use Rattle.policy_state.specs.declared.basis.Timed.{Timed}
use Rattle.policy_state.specs.declared.basis.UpdateReply.{UpdateReply}
use Rattle.policy_state.specs.declared.update.Update.{Update}
use Rattle.ra_records.specs.declared.replies.RaReply.{RaReply}
use Rattle.filter_core.specs.Calls.{update_installs, advert_installs}
use Rattle.filter_core.specs.Installs.{Installed}
use Rattle.filter_core.specs.Replay.{Arrival, Entry, install, reply, answer, learnt, counted, total, Course, tells, after_event, is_due, after_due, after_learning, after_frame, after_arrival, is_learnt, answers_of, installs_of, counted_in, totals, finished}
use Rattle.filter_core.specs.Steps.{Filter, Answered, moved, updated, advertised, answer_of}

-- ---- steps

-- a filter after a step that installed or didn't
abbrev pub Stays : (Installed → Type 0) → (Filter → Type 0) → Bool → Filter → Type 0
Stays P Q true f = Q f × P f.install
Stays P Q false f = Q f

abbrev pub AfterUpdate : (Installed → Type 0) → (Filter → Type 0) → Filter × UpdateReply → Type 0
AfterUpdate P Q after = Stays P Q (update_installs after.1) after.0

abbrev pub AfterAdvert : (Installed → Type 0) → (Filter → Type 0) → Filter × RaReply → Type 0
AfterAdvert P Q after = Stays P Q (advert_installs after.1) after.0

-- Each step keeps what holds of the filter, and gives an install of which P holds, where this holds of its update or of
-- its frame.
pub record AreKept (P : Installed → Type 0) (Q : Filter → Type 0) (U : Update → Type 0) (F : List ℕ → Type 0) : Type 0 where
  pub time : (f : Filter) (now : ℕ) → Q f → Q (moved f now)
  pub update : (f : Filter) (u : Update) (now : ℕ) → Q f → U u → AfterUpdate P Q (updated f u now)
  pub advert : (f : Filter) (frame : List ℕ) (now : ℕ) → Q f → F frame → AfterAdvert P Q (advertised f frame now)

-- ---- entries

pub installs-append : (xs ys : List Entry) → installs_of (xs ++ ys) ≡ installs_of xs ++ installs_of ys
installs-append [] ys = refl
installs-append (install i ∷ xs) ys = ap (λ (is : List Installed). i ∷ is) (installs-append xs ys)
installs-append (answer k a ∷ xs) ys = installs-append xs ys
installs-append (reply r clock ∷ xs) ys = installs-append xs ys
installs-append (learnt k r ∷ xs) ys = installs-append xs ys
installs-append (counted c n ∷ xs) ys = installs-append xs ys
installs-append (total frames passed all ∷ xs) ys = installs-append xs ys

-- more was told, and P holds of each install in it
pub record Grows (P : Installed → Type 0) (told later : List Entry) : Type 0 where
  pub more : List Entry
  pub is : later ≡ told ++ more
  pub each : All P (installs_of more)

-- and Q of the filter behind it
pub record Grown (P : Installed → Type 0) (Q : Filter → Type 0) (c d : Course) : Type 0 where
  pub told : Grows P c.told d.told
  pub filter : Q d.filter

module _ (P : Installed → Type 0) where
  pub grows_none : (told : List Entry) → Grows P told told
  grows_none told = record { more = []; is = sym (append-nil told); each = All-nil P }

  pub grows_grows : (a b c : List Entry) → Grows P a b → Grows P b c → Grows P a c
  grows_grows a b c x y = record {
    more = x.more ++ y.more;
    is = y.is ∙ ap (λ (t : List Entry). t ++ y.more) x.is ∙ append_assoc a x.more y.more;
    each = subst (All P) (sym (installs-append x.more y.more)) (All-append P (installs_of x.more) (installs_of y.more) x.each y.each);
  }

  -- all that was told then
  pub each_told : (a b : List Entry) → Grows P a b → All P (installs_of a) → All P (installs_of b)
  each_told a b x h = subst (λ (t : List Entry). All P (installs_of t)) (sym x.is) (subst (All P) (sym (installs-append a x.more)) (All-append P (installs_of a) (installs_of x.more) h x.each))

-- ---- courses

module _ (P : Installed → Type 0) (Q : Filter → Type 0) (U : Update → Type 0) (F : List ℕ → Type 0) (kept : AreKept P Q U F) where
  abbrev pub Fine : Timed → Type 0
  Fine event = U event.update

  pub grown_grown : (c d e : Course) → Grown P Q c d → Grown P Q d e → Grown P Q c e
  grown_grown c d e x y = record { told = grows_grows P c.told d.told e.told x.told y.told; filter = y.filter }

  event_told : (t : Bool) (c : Course) (f : Filter) (r : UpdateReply) (clock : ℕ) → Stays P Q t f → Grown P Q c (tells c f (cond t (install f.install ∷ []) (reply r clock ∷ [])))
  event_told true c f r clock h = record { told = record { more = install f.install ∷ []; is = refl; each = All-cons P f.install [] h.1 (All-nil P) }; filter = h.0 }
  event_told false c f r clock h = record { told = record { more = reply r clock ∷ []; is = refl; each = All-nil P }; filter = h }

  pub event_grown : (c : Course) (event : Timed) → Q c.filter → Fine event → Grown P Q c (after_event c event)
  event_grown c event h u =
      let after = updated c.filter event.update event.time in
      event_told (update_installs after.1) c after.0 after.1 after.0.clock (kept.update c.filter event.update event.time h u)

  pub events_grown : (c : Course) (events : List Timed) → Q c.filter → All Fine events → Grown P Q c (fold after_event c events)
  events_grown c [] h us = record { told = grows_none P c.told; filter = h }
  events_grown c (event ∷ later) h us =
      let here = event_grown c event h (All-head Fine event later us) in
      grown_grown c (after_event c event) (fold after_event (after_event c event) later) here (events_grown (after_event c event) later here.filter (All-tail Fine event later us))

  -- the events that are left are fine too
  due_left : (second : ℕ) (c : Course) (events : List Timed) → All Fine events → All Fine (after_due second c events).events
  due_left second c [] us = us
  due_left second c (event ∷ later) us =
      by_test (is_due second event) (after_due second (after_event c event) later) (due_left second (after_event c event) later (All-tail Fine event later us))
    where
      by_test : (t : Bool) (d : Course) → All Fine d.events → All Fine (cond t d (record c { events = event ∷ later })).events
      by_test true d k = k
      by_test false d k = us

  pub due_grown : (second : ℕ) (c : Course) (events : List Timed) → Q c.filter → All Fine events → Grown P Q c (after_due second c events)
  due_grown second c [] h us = record { told = grows_none P c.told; filter = h }
  due_grown second c (event ∷ later) h us =
      let here = event_grown c event h (All-head Fine event later us) in
      by_test (is_due second event) (after_due second (after_event c event) later)
      (grown_grown c (after_event c event) (after_due second (after_event c event) later) here (due_grown second (after_event c event) later here.filter (All-tail Fine event later us)))
    where
      by_test : (t : Bool) (d : Course) → Grown P Q c d → Grown P Q c (cond t d (record c { events = event ∷ later }))
      by_test true d k = k
      by_test false d k = record { told = grows_none P c.told; filter = h }

  learning_told : (t : Bool) (c : Course) (f : Filter) (k : ℕ) (r : RaReply) → Stays P Q t f → Grown P Q c (tells c f (cond t (learnt k r ∷ install f.install ∷ []) (learnt k r ∷ [])))
  learning_told true c f k r h = record { told = record { more = learnt k r ∷ install f.install ∷ []; is = refl; each = All-cons P f.install [] h.1 (All-nil P) }; filter = h.0 }
  learning_told false c f k r h = record { told = record { more = learnt k r ∷ []; is = refl; each = All-nil P }; filter = h }

  learning_grown : (c : Course) (arrival : Arrival) → Q c.filter → F arrival.frame → Grown P Q c (after_learning c arrival)
  learning_grown c arrival h bytes =
      let after = advertised c.filter arrival.frame arrival.second in
      learning_told (advert_installs after.1) c after.0 c.frames after.1 (kept.advert c.filter arrival.frame arrival.second h bytes)

  frame_left : (c : Course) (arrival : Arrival) → All Fine c.events → All Fine (after_frame c arrival).events
  frame_left c arrival us =
      let f = moved c.filter arrival.second in
      let a = answer_of f.install arrival.frame f.clock in
      let d = record (tells c f (answer (c.frames + 1) a ∷ [])) { frames = c.frames + 1 } in
      by_test (is_learnt a arrival.frame) (after_learning d arrival) d us us
    where
      by_test : (t : Bool) (d e : Course) → All Fine d.events → All Fine e.events → All Fine (cond t d e).events
      by_test true d e x y = x
      by_test false d e x y = y

  pub frame_grown : (c : Course) (arrival : Arrival) → Q c.filter → F arrival.frame → Grown P Q c (after_frame c arrival)
  frame_grown c arrival h bytes =
      let f = moved c.filter arrival.second in
      let a = answer_of f.install arrival.frame f.clock in
      let d = record (tells c f (answer (c.frames + 1) a ∷ [])) { frames = c.frames + 1 } in
      let here : Grown P Q c d = record { told = record { more = answer (c.frames + 1) a ∷ []; is = refl; each = All-nil P }; filter = kept.time c.filter arrival.second h } in
      by_test (is_learnt a arrival.frame) (after_learning d arrival) d (grown_grown c d (after_learning d arrival) here (learning_grown d arrival here.filter bytes)) here
    where
      by_test : (t : Bool) (d e : Course) → Grown P Q c d → Grown P Q c e → Grown P Q c (cond t d e)
      by_test true d e x y = x
      by_test false d e x y = y

  pub arrival_left : (c : Course) (arrival : Arrival) → All Fine c.events → All Fine (after_arrival c arrival).events
  arrival_left c arrival us = frame_left (after_due arrival.second c c.events) arrival (due_left arrival.second c c.events us)

  pub arrival_grown : (c : Course) (arrival : Arrival) → Q c.filter → All Fine c.events → F arrival.frame → Grown P Q c (after_arrival c arrival)
  arrival_grown c arrival h us bytes =
      let d = after_due arrival.second c c.events in
      let here = due_grown arrival.second c c.events h us in
      grown_grown c d (after_frame d arrival) here (frame_grown d arrival here.filter bytes)

  abbrev pub Learnable : Arrival → Type 0
  Learnable arrival = F arrival.frame

  pub arrivals_left : (c : Course) (arrivals : List Arrival) → All Fine c.events → All Fine (fold after_arrival c arrivals).events
  arrivals_left c [] us = us
  arrivals_left c (arrival ∷ later) us = arrivals_left (after_arrival c arrival) later (arrival_left c arrival us)

  pub arrivals_grown : (c : Course) (arrivals : List Arrival) → Q c.filter → All Fine c.events → All Learnable arrivals → Grown P Q c (fold after_arrival c arrivals)
  arrivals_grown c [] h us frames = record { told = grows_none P c.told; filter = h }
  arrivals_grown c (arrival ∷ later) h us frames =
      let here = arrival_grown c arrival h us (All-head Learnable arrival later frames) in
      grown_grown c (after_arrival c arrival) (fold after_arrival (after_arrival c arrival) later) here
      (arrivals_grown (after_arrival c arrival) later here.filter (arrival_left c arrival us) (All-tail Learnable arrival later frames))

-- ---- the end

-- totals tell of no install and of no answer
counted_apart : (t : Bool) (c : Counter) (n : ℕ) (rest : List Entry) → (installs_of (cond t [] (counted c n ∷ []) ++ rest) ≡ installs_of rest) × (answers_of (cond t [] (counted c n ∷ []) ++ rest) ≡ answers_of rest)
counted_apart true c n rest = (refl, refl)
counted_apart false c n rest = (refl, refl)

pub totals_apart : (answers : List Answered) (cs : List Counter) (frames passed all : ℕ) → installs_of (flat_map (counted_in answers) cs ++ total frames passed all ∷ []) ≡ []
totals_apart answers [] frames passed all = refl
totals_apart answers (c ∷ cs) frames passed all =
    let rest = flat_map (counted_in answers) cs in
    ap installs_of (append_assoc (counted_in answers c) rest (total frames passed all ∷ []))
    ∙ (counted_apart _ c _ (rest ++ total frames passed all ∷ [])).0
    ∙ totals_apart answers cs frames passed all

pub totals_answers : (answers : List Answered) (cs : List Counter) (frames passed all : ℕ) → answers_of (flat_map (counted_in answers) cs ++ total frames passed all ∷ []) ≡ []
totals_answers answers [] frames passed all = refl
totals_answers answers (c ∷ cs) frames passed all =
    let rest = flat_map (counted_in answers) cs in
    ap answers_of (append_assoc (counted_in answers c) rest (total frames passed all ∷ []))
    ∙ (counted_apart _ c _ (rest ++ total frames passed all ∷ [])).1
    ∙ totals_answers answers cs frames passed all

pub totals_grow : (P : Installed → Type 0) (told : List Entry) → Grows P told (told ++ totals told)
totals_grow P told = record {
  more = totals told;
  is = refl;
  each = subst (All P) (sym (totals_apart (answers_of told) all_counters _ _ _)) (All-nil P);
}

-- the events that are left, and the totals
pub ended_grows : (P : Installed → Type 0) (Q : Filter → Type 0) (U : Update → Type 0) (F : List ℕ → Type 0) → AreKept P Q U F
    → (c : Course) → Q c.filter → All (λ event. U event.update) c.events → Grows P c.told ((finished c).told ++ totals (finished c).told)
ended_grows P Q U F kept c h us =
    let told = (finished c).told in
    grows_grows P c.told told (told ++ totals told) (events_grown P Q U F kept c c.events h us).told (totals_grow P told)
