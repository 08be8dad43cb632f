-- A report in course can always be completed.
use Rattle.std.proofs.Common.{◌≡◌, ℕ, ◌+◌, ◌<◌, List, [], ◌∷◌, ◌++◌, length, fold, map, take, drop, get_or, sym, ap, subst, ◌∙◌, append_assoc}
use Rattle.std.specs.Prelude.{⊤}
use Rattle.std.proofs.lemmas.Grind.{take_at_read}
use Rattle.std.proofs.lemmas.List.{append-nil, map-append, take-append-drop}
use Rattle.std.proofs.lemmas.List.Sums.{fold-append}
use Rattle.pcap_files.specs.Capture.{frame_of}
use Rattle.pcap_files.specs.declared.kinds.Placed.{Placed}
use Rattle.policy_state.specs.declared.basis.Script.{Script}
use Rattle.policy_state.specs.declared.basis.Timed.{Timed}
use Rattle.filter_core.proofs.Growing.{Grows, Grown, installs-append, event_grown, events_grown, due_grown, frame_grown, arrivals_grown, totals_grow}
use Rattle.filter_core.proofs.SoundBases.{HasRoom, IsFitting, room_fits, room_kept}
use Rattle.filter_core.specs.Installs.{Installed}
use Rattle.filter_core.specs.Standing.{Standing, filter_of}
use Rattle.filter_core.specs.Tally.{raised_by}
use Rattle.filter_core.specs.Replay.{Arrival, Course, Entry, after_event, after_due, after_frame, after_arrival, answers_of, installs_of, story, replay, finished, totals}
use Rattle.filter_core.proofs.DueEvents.{fold_one, fold_rest}
use Rattle.filter_report.proofs.Telling.{lines-append, answers-append, AllFit-append, steps-append}
use Rattle.filter_report.specs.Along.{Along}
use Rattle.filter_core.specs.Arrivals.{arrival_of, arrivals_of, frames_of}
use Rattle.filter_report.specs.Report.{AllHaveCodes, AllFit, steps_from, Tells, IsReport, IsStory, ended, Leads}
use Rattle.filter_report.specs.Text.{entry_lines}

-- ---- courses whose installs have room, whatever updates and frames come

event_room : (c : Course) (event : Timed) → IsFitting c.filter → Grown HasRoom IsFitting c (after_event c event)
event_room c event fits = event_grown HasRoom IsFitting (λ u. ⊤) (λ frame. ⊤) room_kept c event fits tt

events_room : (c : Course) (events : List Timed) → IsFitting c.filter → Grown HasRoom IsFitting c (fold after_event c events)
events_room c events fits = events_grown HasRoom IsFitting (λ u. ⊤) (λ frame. ⊤) room_kept c events fits (λ k d lt. tt)

due_room : (second : ℕ) (c : Course) → IsFitting c.filter → Grown HasRoom IsFitting c (after_due second c c.events)
due_room second c fits = due_grown HasRoom IsFitting (λ u. ⊤) (λ frame. ⊤) room_kept second c c.events fits (λ k d lt. tt)

frame_room : (c : Course) (arrival : Arrival) → IsFitting c.filter → Grown HasRoom IsFitting c (after_frame c arrival)
frame_room c arrival fits = frame_grown HasRoom IsFitting (λ u. ⊤) (λ frame. ⊤) room_kept c arrival fits tt

pub arrivals_room : (c : Course) (arrivals : List Arrival) → IsFitting c.filter → Grown HasRoom IsFitting c (fold after_arrival c arrivals)
arrivals_room c arrivals fits = arrivals_grown HasRoom IsFitting (λ u. ⊤) (λ frame. ⊤) room_kept c arrivals fits (λ k d lt. tt) (λ k d lt. tt)

-- ---- lines that lead

-- the codes of installs, as a list
codes_for : (is : List Installed) → AllHaveCodes is → (codes : List (List ℕ)) × AllFit codes is
codes_for [] have = ([], tt)
codes_for (i ∷ is) have = let rest = codes_for is have.1 in (have.0.0 ∷ rest.0, (have.0.1, rest.1))

codes_drop : (is js : List Installed) → AllHaveCodes (is ++ js) → AllHaveCodes js
codes_drop [] js have = have
codes_drop (i ∷ is) js have = codes_drop is js have.1

-- those of the entries behind others
pub codes_behind : (es fs : List Entry) → AllHaveCodes (installs_of (es ++ fs)) → AllHaveCodes (installs_of fs)
codes_behind es fs have = codes_drop (installs_of es) (installs_of fs) (subst AllHaveCodes (installs-append es fs) have)

-- the core's install has room, so its base fits
pub along_fits : (c : Course) (core : Standing) (frames lines : List (List ℕ)) → Along c core frames lines → IsFitting c.filter
along_fits c core frames lines a = subst IsFitting a.at (room_fits (filter_of core) core.install.fits)

-- the lines so far begin each text of what is told so far and of more, and the lines of more end it
pub leads_lines : (c : Course) (core : Standing) (frames lines : List (List ℕ)) → Along c core frames lines → (more : List Entry) (later : List (List ℕ)) → AllHaveCodes (installs_of more)
    → (programs : List (List ℕ)) × (steps : List ℕ) × Tells (c.told ++ more) (frames ++ later) (lines ++ entry_lines programs steps more)
leads_lines c core frames lines a = λ more later have.
    let codes = codes_for (installs_of more) have in
    let programs = a.programs ++ codes.0 in
    let before = answers_of c.told in
    let so_far = steps_from programs [] before frames in
    let rest = steps_from programs (raised_by before) (answers_of more) later in
    let steps : steps_from programs [] (answers_of (c.told ++ more)) (frames ++ later) ≡ so_far ++ rest =
    ap (λ xs. steps_from programs [] xs (frames ++ later)) (answers-append c.told more) ∙ steps-append programs [] before (answers_of more) frames later a.answered in (
      programs,
      so_far ++ rest,
      record {
        programs = programs;
        fit = subst (λ (is : List Installed). AllFit programs is) (sym (installs-append c.told more)) (AllFit-append a.programs (installs_of c.told) codes.0 (installs_of more) a.fit codes.1);
        telling =
            ap (λ (l : List (List ℕ)). l ++ entry_lines programs (so_far ++ rest) more) (a.telling codes.0 rest)
            ∙ sym (lines-append programs (so_far ++ rest) c.told more)
            ∙ ap (λ (s : List ℕ). entry_lines programs s (c.told ++ more)) (sym steps);
      },
    )

pub leads : (c : Course) (core : Standing) (frames lines : List (List ℕ)) → Along c core frames lines → Leads c.told frames lines
leads c core frames lines a = λ more later have. let r = leads_lines c core frames lines a more later (codes_behind c.told more have) in (entry_lines r.0 r.1 more, r.2)

-- and so they do once more is told
pub leads_grown : (told all : List Entry) (frames later lines : List (List ℕ)) → Grows HasRoom told all → Leads told frames lines → Leads all (frames ++ later) lines
leads_grown told all frames later lines g lead =
    subst (λ (es : List Entry). Leads es (frames ++ later) lines) (sym g.is) (λ more next have.
    let r = lead (g.more ++ more) (later ++ next) (subst (λ (es : List Entry). AllHaveCodes (installs_of es)) (append_assoc told g.more more) have) in (
      r.0,
      subst (λ (es : List Entry). Tells es ((frames ++ later) ++ next) (lines ++ r.0)) (sym (append_assoc told g.more more))
          (subst (λ (fs : List (List ℕ)). Tells (told ++ (g.more ++ more)) fs (lines ++ r.0)) (sym (append_assoc frames later next)) r.1),
    ))

-- the same where no frame comes with it
pub leads_told : (told all : List Entry) (frames lines : List (List ℕ)) → Grows HasRoom told all → Leads told frames lines → Leads all frames lines
leads_told told all frames lines g lead =
    subst (λ (fs : List (List ℕ)). Leads all fs lines) (append-nil frames) (leads_grown told all frames [] lines g lead)

-- the lines so far, where no code and no step comes later
pub lines_told : (c : Course) (core : Standing) (frames lines : List (List ℕ)) (a : Along c core frames lines)
    → lines ≡ entry_lines a.programs (steps_from a.programs [] (answers_of c.told) frames) c.told
lines_told c core frames lines a =
    let steps = steps_from a.programs [] (answers_of c.told) frames in
    a.telling [] [] ∙ ap (λ (p : List (List ℕ)). entry_lines p (steps_from p [] (answers_of c.told) frames ++ []) c.told) (append-nil a.programs)
    ∙ ap (λ (s : List ℕ). entry_lines a.programs s c.told) (append-nil steps)

-- they tell what is told so far
pub along_tells : (c : Course) (core : Standing) (frames lines : List (List ℕ)) → Along c core frames lines → Tells c.told frames lines
along_tells c core frames lines a = record { programs = a.programs; fit = a.fit; telling = lines_told c core frames lines a }

-- lines that lead can be completed at once
pub leads_tells : (told : List Entry) (frames lines : List (List ℕ)) → AllHaveCodes (installs_of told) → Leads told frames lines → (rest : List (List ℕ)) × Tells told frames (lines ++ rest)
leads_tells told frames lines have lead =
    let r = lead [] [] (subst (λ (es : List Entry). AllHaveCodes (installs_of es)) (sym (append-nil told)) have) in
    (r.0, subst (λ (es : List Entry). Tells es frames (lines ++ r.0)) (append-nil told) (subst (λ (fs : List (List ℕ)). Tells (told ++ []) fs (lines ++ r.0)) (append-nil frames) r.1))

-- ---- scripts

-- whatever frames come, the lines begin a story
pub leads_story : (script : Script) (arrivals : List Arrival) (lines : List (List ℕ)) → AllHaveCodes (installs_of (story script arrivals)) → Leads (story script arrivals) (frames_of arrivals) lines
    → (rest : List (List ℕ)) × IsStory script arrivals (lines ++ rest)
leads_story script arrivals lines have lead = leads_tells (story script arrivals) (frames_of arrivals) lines have lead

-- and a report
pub leads_report : (script : Script) (arrivals : List Arrival) (lines : List (List ℕ)) → AllHaveCodes (installs_of (replay script arrivals)) → Leads (replay script arrivals) (frames_of arrivals) lines
    → (rest : List (List ℕ)) × IsReport script arrivals (lines ++ rest)
leads_report script arrivals lines have lead = leads_tells (replay script arrivals) (frames_of arrivals) lines have lead

-- ---- calls that end by a fault

-- before an event was told
pub leads_event : (c : Course) (core : Standing) (frames lines : List (List ℕ)) (event : Timed) → Along c core frames lines → Leads (after_event c event).told frames lines
leads_event c core frames lines event a =
    leads_told c.told (after_event c event).told frames lines (event_room c event (along_fits c core frames lines a)).told (leads c core frames lines a)

-- before a frame was told
pub leads_frame : (c : Course) (core : Standing) (frames lines : List (List ℕ)) (arrival : Arrival) → Along c core frames lines
    → Leads (after_frame c arrival).told (frames ++ arrival.frame ∷ []) lines
leads_frame c core frames lines arrival a =
    leads_grown c.told (after_frame c arrival).told frames (arrival.frame ∷ []) lines (frame_room c arrival (along_fits c core frames lines a)).told (leads c core frames lines a)

-- before the end was told
pub leads_end : (d : Course) (core : Standing) (frames lines : List (List ℕ)) → Along d core frames lines → Leads (d.told ++ totals d.told) frames lines
leads_end d core frames lines a = leads_told d.told (d.told ++ totals d.told) frames lines (totals_grow HasRoom d.told) (leads d core frames lines a)

-- within events
pub leads_behind : (c : Course) (events : List Timed) (i : ℕ) (d event : Timed) (frames lines : List (List ℕ)) → IsFitting c.filter → i < length events → event ≡ get_or events i d
    → Leads (after_event (fold after_event c (take i events)) event).told frames lines → Leads (fold after_event c events).told frames lines
leads_behind c events i d event frames lines fits below is lead =
    let b = fold after_event c (take (i + 1) events) in
    let rest = drop (i + 1) events in
    let here : Leads b.told frames lines = subst (λ (e : Course). Leads e.told frames lines) (sym (fold_one after_event c events i d event below is)) lead in
    subst (λ (e : Course). Leads e.told frames lines) (sym (fold_rest after_event c events i (i + 1)))
    (leads_told b.told (fold after_event b rest).told frames lines (events_room b rest (events_room c (take (i + 1) events) fits).filter).told here)

-- within the events before a frame
pub leads_arrival : (c : Course) (frames lines : List (List ℕ)) (arrival : Arrival) → IsFitting c.filter
    → Leads (after_due arrival.second c c.events).told frames lines → Leads (after_arrival c arrival).told (frames ++ arrival.frame ∷ []) lines
leads_arrival c frames lines arrival fits lead =
    let d = after_due arrival.second c c.events in
    leads_grown d.told (after_arrival c arrival).told frames (arrival.frame ∷ []) lines (frame_room d arrival (due_room arrival.second c fits).filter).told lead

-- within the events at the end
pub leads_ended : (c : Course) (frames lines : List (List ℕ)) → Leads (fold after_event c c.events).told frames lines → Leads (ended c) frames lines
leads_ended c frames lines lead = leads_told (finished c).told (ended c) frames lines (totals_grow HasRoom (finished c).told) lead

-- within records of a capture
pub leads_records : (capture : List ℕ) (c : Course) (records : List Placed) (i : ℕ) (d placed : Placed) (frames lines : List (List ℕ)) → IsFitting c.filter → i < length records → placed ≡ get_or records i d
    → (let b = fold after_arrival c (arrivals_of capture (take i records)) in
    Leads (after_arrival b (arrival_of capture placed)).told ((frames ++ map (frame_of capture) (take i records)) ++ frame_of capture placed ∷ []) lines)
    → Leads (fold after_arrival c (arrivals_of capture records)).told (frames ++ map (frame_of capture) records) lines
leads_records capture c records i d placed frames lines fits below is lead =
    let first = take (i + 1) records in
    let rest = drop (i + 1) records in
    let b = fold after_arrival c (arrivals_of capture first) in
    let more : first ≡ take i records ++ placed ∷ [] = (take_at_read records i d below).1 ∙ ap (λ x. take i records ++ x ∷ []) (sym is) in
    let all : records ≡ first ++ rest = sym (take-append-drop (i + 1) records) in
    let fs : frames ++ map (frame_of capture) first ≡ (frames ++ map (frame_of capture) (take i records)) ++ frame_of capture placed ∷ [] =
    ap (λ xs. frames ++ map (frame_of capture) xs) more ∙ ap (λ xs. frames ++ xs) (map-append (frame_of capture) (take i records) (placed ∷ [])) ∙ sym (append_assoc frames (map (frame_of capture) (take i records)) (frame_of capture placed ∷ [])) in
    let c_is : b ≡ after_arrival (fold after_arrival c (arrivals_of capture (take i records))) (arrival_of capture placed) =
    ap (λ xs. fold after_arrival c (arrivals_of capture xs)) more ∙ ap (λ xs. fold after_arrival c xs) (map-append (arrival_of capture) (take i records) (placed ∷ []))
    ∙ fold-append after_arrival c (arrivals_of capture (take i records)) (arrival_of capture placed ∷ []) in
    let here : Leads b.told (frames ++ map (frame_of capture) first) lines =
    subst (λ (x : Course). Leads x.told (frames ++ map (frame_of capture) first) lines) (sym c_is) (subst (λ (x : List (List ℕ)). Leads (after_arrival (fold after_arrival c (arrivals_of capture (take i records))) (arrival_of capture placed)).told x lines) (sym fs) lead) in
    let later = arrivals_of capture rest in
    let grown = arrivals_room b later (arrivals_room c (arrivals_of capture first) fits).filter in
    let done : Leads (fold after_arrival b later).told ((frames ++ map (frame_of capture) first) ++ map (frame_of capture) rest) lines =
    leads_grown b.told (fold after_arrival b later).told (frames ++ map (frame_of capture) first) (map (frame_of capture) rest) lines grown.told here in
    let whole : fold after_arrival c (arrivals_of capture records) ≡ fold after_arrival b later =
    ap (λ xs. fold after_arrival c (arrivals_of capture xs)) all ∙ ap (λ xs. fold after_arrival c xs) (map-append (arrival_of capture) first rest) ∙ fold-append after_arrival c (arrivals_of capture first) later in
    let frames_whole : frames ++ map (frame_of capture) records ≡ (frames ++ map (frame_of capture) first) ++ map (frame_of capture) rest =
    ap (λ xs. frames ++ map (frame_of capture) xs) all ∙ ap (λ xs. frames ++ xs) (map-append (frame_of capture) first rest) ∙ sym (append_assoc frames (map (frame_of capture) first) (map (frame_of capture) rest)) in
    subst (λ (x : Course). Leads x.told (frames ++ map (frame_of capture) records) lines) (sym whole) (subst (λ (x : List (List ℕ)). Leads (fold after_arrival b later).told x lines) (sym frames_whole) done)

-- the events that are due, as those at the front of the list
pub due_leads : (c : Course) (second count : ℕ) (events : List Timed) (frames lines : List (List ℕ)) → c.events ≡ events
    → after_due second c events ≡ record (fold after_event c (take count events)) { events = drop count events }
    → Leads (fold after_event c (take count events)).told frames lines → Leads (after_due second c c.events).told frames lines
due_leads c second count events frames lines same due lead =
    let is : after_due second c c.events ≡ record (fold after_event c (take count events)) { events = drop count events } = ap (λ (xs : List Timed). after_due second c xs) same ∙ due in
    subst (λ (e : Course). Leads e.told frames lines) (sym is) lead
