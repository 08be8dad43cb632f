-- A filter that reports goes along with a course.
use Rattle.std.proofs.Common.{◌≡◌, ℕ, ◌+◌, ◌<◌, Bool, true, false, cond, List, [], ◌∷◌, ◌++◌, length, length-append, take, drop, fold, refl, sym, ap, subst, ◌∙◌, append_assoc, get_or, map}
use Rattle.std.proofs.lemmas.Grind.{take_at_read}
use Rattle.std.proofs.lemmas.List.{append-nil, map-append}
use Rattle.std.proofs.lemmas.List.Sums.{fold-append}
use Rattle.pcap_files.specs.Capture.{frame_of}
use Rattle.pcap_files.specs.declared.kinds.Placed.{Placed}
use Rattle.filter_core.specs.Arrivals.{arrival_of, arrivals_of}
use Rattle.policy_state.specs.declared.basis.Script.{Script}
use Rattle.policy_state.specs.declared.basis.Timed.{Timed}
use Rattle.policy_state.specs.declared.basis.UpdateReply.{UpdateReply}
use Rattle.filter_core.specs.Calls.{update_installs}
use Rattle.filter_core.specs.Replay.{Arrival, Course, Entry, install, reply, after_event, after_due, after_arrival, after_frame, answers_of, passed, begun, finished}
use Rattle.filter_core.specs.Standing.{Standing}
use Rattle.filter_core.specs.Steps.{Filter, updated}
use Rattle.filter_report.proofs.Telling.{answers-append}
use Rattle.filter_report.specs.Along.{Along, Reporting, InCourse}

-- which events are left is nothing to the core
pub along_events : (c : Course) (core : Standing) (frames lines : List (List ℕ)) (events : List Timed) → Along c core frames lines → Along (record c { events = events }) core frames lines
along_events c core frames lines events a = record {
  programs = a.programs;
  fit = a.fit;
  stands = a.stands;
  count = a.count;
  at = a.at;
  memory = a.memory;
  answered = a.answered;
  taken = a.taken;
  telling = a.telling;
}

-- ---- events have no answers

event_told : (t : Bool) (told : List Entry) (f : Filter) (r : UpdateReply) (clock : ℕ) → answers_of (told ++ cond t (install f.install ∷ []) (reply r clock ∷ [])) ≡ answers_of told
event_told true told f r clock = answers-append told (install f.install ∷ []) ∙ append-nil (answers_of told)
event_told false told f r clock = answers-append told (reply r clock ∷ []) ∙ append-nil (answers_of told)

event_answers : (c : Course) (event : Timed) → answers_of (after_event c event).told ≡ answers_of c.told
event_answers c event =
    let after = updated c.filter event.update event.time in
    event_told (update_installs after.1) c.told after.0 after.1 after.0.clock

pub events_answers : (c : Course) (events : List Timed) → answers_of (fold after_event c events).told ≡ answers_of c.told
events_answers c [] = refl
events_answers c (event ∷ later) = events_answers (after_event c event) later ∙ event_answers c event

-- ---- steps

-- the events that are due were taken
pub due_in_course : (c : Course) (old new : Reporting) (second count : ℕ) (frames start lines : List (List ℕ)) →
    after_due second c old.left ≡ record (fold after_event c (take count old.left)) { events = drop count old.left } →
    new.left ≡ drop count old.left → new.frames ≡ old.frames → new.passed ≡ old.passed →
    InCourse c old frames start → Along (fold after_event c (take count old.left)) new.core frames lines → InCourse (after_due second c c.events) new frames lines
due_in_course c old new second count frames start lines due left same passes before along =
    let d = fold after_event c (take count old.left) in
    let is : after_due second c c.events ≡ record d { events = drop count old.left } = ap (λ (xs : List Timed). after_due second c xs) before.events ∙ due in
    subst (λ (e : Course). InCourse e new frames lines) (sym is) (record {
      along = along_events d new.core frames lines (drop count old.left) along;
      events = sym left;
      frames_taken = same ∙ before.frames_taken;
      frames_passed = passes ∙ before.frames_passed ∙ ap passed (sym (events_answers c (take count old.left)));
    })

-- all events that are left were taken
pub rest_in_course : (c : Course) (old new : Reporting) (frames start lines : List (List ℕ)) → new.left ≡ [] → new.frames ≡ old.frames → new.passed ≡ old.passed →
    InCourse c old frames start → Along (fold after_event c old.left) new.core frames lines → InCourse (finished c) new frames lines
rest_in_course c old new frames start lines left same passes before along =
    let d = fold after_event c old.left in
    subst (λ (es : List Timed). InCourse (record (fold after_event c es) { events = [] }) new frames lines) (sym before.events) (record {
      along = along_events d new.core frames lines [] along;
      events = sym left;
      frames_taken = same ∙ before.frames_taken;
      frames_passed = passes ∙ before.frames_passed ∙ ap passed (sym (events_answers c old.left));
    })

-- a frame changes no event that is left
learning_events : (t : Bool) (d e : Course) (events : List Timed) → d.events ≡ events → e.events ≡ events → (cond t d e).events ≡ events
learning_events true d e events h k = h
learning_events false d e events h k = k

frame_events : (c : Course) (arrival : Arrival) → (after_frame c arrival).events ≡ c.events
frame_events c arrival = learning_events _ _ _ c.events refl refl

-- a frame was taken
pub frame_in_course : (c : Course) (old new : Reporting) (arrival : Arrival) (frames start lines : List (List ℕ)) →
    new.left ≡ old.left → new.frames ≡ old.frames + 1 → passed (answers_of (after_frame c arrival).told) ≡ new.passed →
    InCourse c old frames start → Along (after_frame c arrival) new.core (frames ++ arrival.frame ∷ []) lines → InCourse (after_frame c arrival) new (frames ++ arrival.frame ∷ []) lines
frame_in_course c old new arrival frames start lines left next passes before along = record {
  along = along;
  events = frame_events c arrival ∙ before.events ∙ sym left;
  frames_taken = next ∙ ap (λ n. n + 1) before.frames_taken ∙ sym (length-append frames (arrival.frame ∷ []));
  frames_passed = sym passes;
}

-- the start
pub begun_in_course : (script : Script) (f : Reporting) (lines : List (List ℕ)) → Along (begun script) f.core [] lines → f.left ≡ script.events → f.frames ≡ 0 → f.passed ≡ 0 → InCourse (begun script) f [] lines
begun_in_course script f lines along left frames passes = record { along = along; events = sym left; frames_taken = frames; frames_passed = passes }

-- ---- records of a capture

-- what stands for a record where there is none
abbrev pub no_record : Placed
no_record = record { stamp = record { sec = 0; fraction = 0; original = 0 }; at = 0; len = 0 }

pub records_one : (capture : List ℕ) (c : Course) (records : List Placed) (i : ℕ) (d placed : Placed) (frames lines : List (List ℕ)) (f : Reporting) → i < length records → placed ≡ get_or records i d
    → (let b = fold after_arrival c (arrivals_of capture (take i records)) in
    InCourse (after_arrival b (arrival_of capture placed)) f ((frames ++ map (frame_of capture) (take i records)) ++ frame_of capture placed ∷ []) lines)
    → InCourse (fold after_arrival c (arrivals_of capture (take (i + 1) records))) f (frames ++ map (frame_of capture) (take (i + 1) records)) lines
records_one capture c records i d placed frames lines f below is here =
    let first = take i records in
    let more : take (i + 1) records ≡ first ++ placed ∷ [] = (take_at_read records i d below).1 ∙ ap (λ (x : Placed). first ++ x ∷ []) (sym is) in
    let fs : frames ++ map (frame_of capture) (first ++ placed ∷ []) ≡ (frames ++ map (frame_of capture) first) ++ frame_of capture placed ∷ [] =
    ap (λ (xs : List (List ℕ)). frames ++ xs) (map-append (frame_of capture) first (placed ∷ [])) ∙ sym (append_assoc frames (map (frame_of capture) first) (frame_of capture placed ∷ [])) in
    let c_is : fold after_arrival c (arrivals_of capture (first ++ placed ∷ [])) ≡ after_arrival (fold after_arrival c (arrivals_of capture first)) (arrival_of capture placed) =
    ap (λ (xs : List Arrival). fold after_arrival c xs) (map-append (arrival_of capture) first (placed ∷ [])) ∙ fold-append after_arrival c (arrivals_of capture first) (arrival_of capture placed ∷ []) in
    subst (λ (xs : List Placed). InCourse (fold after_arrival c (arrivals_of capture xs)) f (frames ++ map (frame_of capture) xs) lines) (sym more)
    (subst (λ (x : Course). InCourse x f (frames ++ map (frame_of capture) (first ++ placed ∷ [])) lines) (sym c_is)
    (subst (λ (x : List (List ℕ)). InCourse (after_arrival (fold after_arrival c (arrivals_of capture first)) (arrival_of capture placed)) f x lines) (sym fs) here))
