-- A frame, and the events that are due before it.
use Rattle.std.proofs.Common.{◌≡◌, ℕ, ◌+◌, ◌≤◌, max, Bool, true, false, cond, List, [], ◌∷◌, ◌++◌, take, drop, fold, Option, None, Some, refl, sym, ap, ◌∙◌, arith, append_assoc}
use Rattle.std.specs.Prelude.{◌&&◌}
use Rattle.policy_state.specs.declared.basis.Answer.{Answer}
use Rattle.policy_state.specs.declared.basis.Timed.{Timed}
use Rattle.ra_records.specs.Advert.{candidate}
use Rattle.ra_records.specs.declared.replies.RaReply.{RaReply}
use Rattle.filter_core.specs.Calls.{Renews}
use Rattle.filter_core.specs.Coded.{plain, IsAnswer}
use Rattle.filter_core.specs.Replay.{Arrival, Course, Entry, answer, tells, is_due, passes, is_learnt, learnt_entries, after_event, after_due, after_frame, after_learning}
use Rattle.filter_core.specs.Standing.{Standing, filter_of}
use Rattle.filter_core.specs.Steps.{Filter, Answered, moved, updated, advertised, answer_of}
use Rattle.filter_core.specs.Taking.{Learns, installs_learnt, entries_learnt}
use Rattle.filter_core.specs.declared.install.Install.{Install}

-- ---- an install or none

pub renews_number : (t : Bool) (old new : Install) → Renews t old new → new.number ≤ old.number + 1
renews_number true old new h = omega (arith, h)
renews_number false old new h = let same : new.number ≡ old.number = ap (λ (i : Install). i.number) h in omega arith

pub renews_least : (t : Bool) (old new : Install) → Renews t old new → old.number ≤ new.number
renews_least true old new h = omega (arith, h)
renews_least false old new h = let same : new.number ≡ old.number = ap (λ (i : Install). i.number) h in omega arith

-- where the number stays, the install does
pub renews_stays : (t : Bool) (first old new : Install) → first.number ≤ old.number → (old.number ≡ first.number → old ≡ first) → Renews t old new → new.number ≡ first.number → new ≡ first
renews_stays true first old new least before h e = absurd (omega (arith, h))
renews_stays false first old new least before h e = h ∙ before (sym (ap (λ (i : Install). i.number) h) ∙ e)

-- ---- what was learnt

module _ (frame : List ℕ) (now : ℕ) (old new : Standing) where
  pub learns_memory : (t : Bool) (reply : Option RaReply) → Learns t frame now old reply new → new.memory ≡ old.memory
  learns_memory false None h = ap (λ (s : Standing). s.memory) h
  learns_memory true (Some r) h = h.memory
  learns_memory false (Some r) h = absurd h
  learns_memory true None h = absurd h

  pub learns_renews : (t : Bool) (reply : Option RaReply) → Learns t frame now old reply new → Renews (installs_learnt reply) old.install new.install
  learns_renews false None h = ap (λ (s : Standing). s.install) h
  learns_renews true (Some r) h = h.install
  learns_renews false (Some r) h = absurd h
  learns_renews true None h = absurd h

  pub learns_number : (t : Bool) (reply : Option RaReply) → Learns t frame now old reply new → new.install.number ≤ old.install.number + 1
  learns_number t reply h = renews_number (installs_learnt reply) old.install new.install (learns_renews t reply h)

-- ---- the events that are due

-- an event takes the core where it takes the course
pub event_kept : (d : Course) (old new : Standing) (event : Timed) → filter_of old ≡ d.filter → filter_of new ≡ (updated (filter_of old) event.update event.time).0 →
    filter_of new ≡ (after_event d event).filter
event_kept d old new event at is = is ∙ ap (λ (f : Filter). (updated f event.update event.time).0) at

-- they take no frame
pub due_frames : (second : ℕ) (c : Course) (events : List Timed) → (after_due second c events).frames ≡ c.frames
due_frames second c [] = refl
due_frames second c (event ∷ later) = by_test (is_due second event) (due_frames second (after_event c event) later)
  where
    by_test : (t : Bool) → (after_due second (after_event c event) later).frames ≡ c.frames →
        (cond t (after_due second (after_event c event) later) (record c { events = event ∷ later })).frames ≡ c.frames
    by_test true h = h
    by_test false h = refl

pub due_caught : (second : ℕ) (c : Course) (events front : List Timed) (count : ℕ) (f : Filter) →
    after_due second c events ≡ record (fold after_event c (take count events)) { events = drop count events } →
    front ≡ take count events → c.events ≡ events → f ≡ (fold after_event c front).filter →
    f ≡ (after_due second c c.events).filter
due_caught second c events front count f due is same at =
    at
    ∙ ap (λ (es : List Timed). (fold after_event c es).filter) is
    ∙ sym (ap (λ (d : Course). d.filter) due)
    ∙ ap (λ (es : List Timed). (after_due second c es).filter) (sym same)

-- ---- the frame

-- the entries of a reply are those of the step
entries_are : (k : ℕ) (after : Filter × RaReply) (f : Filter) (r : RaReply) → f ≡ after.0 → r ≡ after.1 → learnt_entries k after ≡ learnt_entries k (f, r)
entries_are k after f r ef er = sym (ap (λ (g : Filter). learnt_entries k (g, r)) ef ∙ ap (λ (q : RaReply). learnt_entries k (after.0, q)) er)

module _ (d : Course) (caught mid : Standing) (second : ℕ) (frame : List ℕ) (result : Answer) (at : filter_of caught ≡ d.filter)
    (is : IsAnswer caught.install frame (max caught.clock second) caught.memory result mid.memory) (clock : mid.clock ≡ max caught.clock second) (same : mid.install ≡ caught.install)
    (held : mid.held ≡ caught.held) (added : mid.added ≡ caught.added) where
  abbrev own : Answered
  own = answer_of (plain caught.install) frame (max caught.clock second)

  abbrev told_own : Answered
  told_own = answer_of d.filter.install frame (max d.filter.clock second)

  at_own : told_own ≡ own
  at_own = ap (λ (f : Filter). answer_of f.install frame (max f.clock second)) (sym at)

  moves : filter_of mid ≡ moved d.filter second
  moves = rw (same, held, added, clock) (ap (λ (f : Filter). moved f second) at)

  learns : (t : Bool) → (passes result.verdict && candidate frame) ≡ t → is_learnt told_own frame ≡ t
  learns t e = ap (λ (x : Answered). is_learnt x frame) at_own ∙ ap (λ v. passes v && candidate frame) (sym is.decided) ∙ e

  abbrev arrival : Arrival
  arrival = record { second = second; frame = frame }

  abbrev answered : Course
  answered = record (tells d (moved d.filter second) (answer (d.frames + 1) told_own ∷ [])) { frames = d.frames + 1 }

  -- the course by the test whether the frame is learnt from
  by_test : (t : Bool) → (passes result.verdict && candidate frame) ≡ t → after_frame d arrival ≡ cond t (after_learning answered arrival) answered
  by_test t e = ap (λ (b : Bool). cond b (after_learning answered arrival) answered) (learns t e)

  pub frame_filter : (t : Bool) (reply : Option RaReply) (new : Standing) → (passes result.verdict && candidate frame) ≡ t → Learns t frame second mid reply new →
      filter_of new ≡ (after_frame d arrival).filter
  frame_filter false None new e h = ap filter_of h ∙ moves ∙ sym (ap (λ (c : Course). c.filter) (by_test false e))
  frame_filter true (Some r) new e h =
      h.filter ∙ ap (λ (f : Filter). (advertised f frame second).0) moves ∙ sym (ap (λ (c : Course). c.filter) (by_test true e))
  frame_filter false (Some r) new e h = absurd h
  frame_filter true None new e h = absurd h

  pub frame_told : (t : Bool) (reply : Option RaReply) (new : Standing) → (passes result.verdict && candidate frame) ≡ t → Learns t frame second mid reply new →
      (after_frame d arrival).told ≡ d.told ++ answer (d.frames + 1) own ∷ entries_learnt (d.frames + 1) (filter_of new) reply
  frame_told false None new e h =
      ap (λ (c : Course). c.told) (by_test false e) ∙ ap (λ (x : Answered). d.told ++ answer (d.frames + 1) x ∷ []) at_own
  frame_told true (Some r) new e h =
      let after = advertised (moved d.filter second) frame second in
      let to_after : advertised (filter_of mid) frame second ≡ after = ap (λ (f : Filter). advertised f frame second) moves in
      let one = answer (d.frames + 1) told_own ∷ [] in
      ap (λ (c : Course). c.told) (by_test true e)
      ∙ append_assoc d.told one (learnt_entries (d.frames + 1) after)
      ∙ ap (λ (x : Answered). d.told ++ answer (d.frames + 1) x ∷ learnt_entries (d.frames + 1) after) at_own
      ∙ ap (λ (l : List Entry). d.told ++ answer (d.frames + 1) own ∷ l)
      (entries_are (d.frames + 1) after (filter_of new) r (h.filter ∙ ap (λ (a : Filter × RaReply). a.0) to_after) (h.reply ∙ ap (λ (a : Filter × RaReply). a.1) to_after))
  frame_told false (Some r) new e h = absurd h
  frame_told true None new e h = absurd h
