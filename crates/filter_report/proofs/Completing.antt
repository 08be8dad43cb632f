-- The lines of a replay that broke off can be completed to those that are defined.
use Rattle.std.proofs.Common.{◌≡◌, ◌≤◌, ℕ, List, [], ◌∷◌, ◌++◌, fold, All, Option, None, Some, sym, ap, subst, ◌∙◌}
use Rattle.std.specs.Prelude.{⊤}
use Rattle.std.proofs.lemmas.List.{map-append}
use Rattle.std.proofs.lemmas.List.Elements.{All-head, All-tail, All-nil, All-cons}
use Rattle.std.proofs.lemmas.List.Sums.{fold-append}
use Rattle.hex.specs.Hex.{IsBytes}
use Rattle.apf_coding.specs.Words.{AreBytes}
use Rattle.apf_generate.proofs.Existing.{program_exists}
use Rattle.apf_generate.specs.Ranges.{IsScript}
use Rattle.pcap_files.specs.Stream.{Handed}
use Rattle.pcap_files.specs.declared.fault.PcapError.{PcapError}
use Rattle.policy_state.specs.States.{start}
use Rattle.policy_state.specs.declared.basis.Script.{Script}
use Rattle.size_fit.specs.Sizes.{base, limit_of}
use Rattle.filter_core.proofs.Growing.{Grows, Grown, installs-append, ended_grows}
use Rattle.filter_core.proofs.SoundBases.{HasSoundBasis, HasRoom, IsFitting, begun_fits, bases_sound, bases_room, room_kept}
use Rattle.filter_core.specs.Installs.{Installed}
use Rattle.filter_core.specs.Replay.{Arrival, Course, Entry, begun, after_arrival, course, installs_of, replay, story}
use Rattle.filter_report.proofs.Leading.{arrivals_room, leads_grown, leads_told, leads_story, leads_report}
use Rattle.filter_core.specs.Arrivals.{frames_of}
use Rattle.filter_report.specs.Report.{AllHaveCodes, Leads}
use Rattle.filter_report.specs.Streaming.{TellsAll, arrival_told, arrivals_told}

-- ---- codes

-- there is a code for each install that is sound and has room
codes_of : (is : List Installed) → All HasSoundBasis is → All HasRoom is → AllHaveCodes is
codes_of [] sound room = tt
codes_of (i ∷ is) sound room =
    let found = program_exists i.basis (All-head HasSoundBasis i is sound) (All-head HasRoom i is room) in (
      (found.0, record { means = found.1; size = found.2; room = All-head HasRoom i is room; bytes = found.3 }),
      codes_of is (All-tail HasSoundBasis i is sound) (All-tail HasRoom i is room),
    )

codes_front : (is js : List Installed) → AllHaveCodes (is ++ js) → AllHaveCodes is
codes_front [] js have = tt
codes_front (i ∷ is) js have = (have.0, codes_front is js have.1)

codes_before : (told all : List Entry) → Grows HasRoom told all → AllHaveCodes (installs_of all) → AllHaveCodes (installs_of told)
codes_before told all g have =
    codes_front (installs_of told) (installs_of g.more) (subst AllHaveCodes (ap installs_of g.is ∙ installs-append told g.more) have)

-- ---- frames of bytes

abbrev pub HasBytes : Arrival → Type 0
HasBytes arrival = AreBytes arrival.frame

abbrev pub IsOfBytes : Handed → Type 0
IsOfBytes handed = IsBytes handed.frame

pub handed_have_bytes : (list : List Handed) → All IsOfBytes list → All HasBytes (arrivals_told list)
handed_have_bytes [] h = All-nil HasBytes
handed_have_bytes (handed ∷ list) h =
    All-cons HasBytes (arrival_told handed) (arrivals_told list) (All-head IsOfBytes handed list h) (handed_have_bytes list (All-tail IsOfBytes handed list h))

-- ---- more records

abbrev pub records_course : Script → List Handed → Course
records_course script given = fold after_arrival (begun script) (arrivals_told given)

abbrev pub records_frames : List Handed → List (List ℕ)
records_frames given = frames_of (arrivals_told given)

pub records_course-append : (script : Script) (given later : List Handed) → records_course script (given ++ later) ≡ fold after_arrival (records_course script given) (arrivals_told later)
records_course-append script given later =
    ap (λ (xs : List Arrival). fold after_arrival (begun script) xs) (map-append arrival_told given later)
    ∙ fold-append after_arrival (begun script) (arrivals_told given) (arrivals_told later)

pub records_frames-append : (given later : List Handed) → records_frames (given ++ later) ≡ records_frames given ++ records_frames later
records_frames-append given later =
    ap frames_of (map-append arrival_told given later) ∙ map-append (λ (arrival : Arrival). arrival.frame) (arrivals_told given) (arrivals_told later)

-- ---- completed

module _ (script : Script) (sound : IsScript script) (fits : base script.config start ≤ limit_of script.config) where
  arrived : (arrivals : List Arrival) → Grown HasRoom IsFitting (begun script) (course script arrivals)
  unfolding course
  arrived arrivals = arrivals_room (begun script) arrivals (begun_fits script fits)

  pub begun_grows : (arrivals : List Arrival) → Grows HasRoom (begun script).told (story script arrivals)
  begun_grows arrivals = (arrived arrivals).told

  pub story_grows : (arrivals : List Arrival) → Grows HasRoom (story script arrivals) (replay script arrivals)
  story_grows arrivals = ended_grows HasRoom IsFitting (λ u. ⊤) (λ frame. ⊤) room_kept (course script arrivals) (arrived arrivals).filter (λ k d lt. tt)

  pub replay_codes : (arrivals : List Arrival) → All HasBytes arrivals → AllHaveCodes (installs_of (replay script arrivals))
  replay_codes arrivals bytes = codes_of (installs_of (replay script arrivals)) (bases_sound script arrivals sound bytes) (bases_room script arrivals fits)

  pub story_codes : (arrivals : List Arrival) → All HasBytes arrivals → AllHaveCodes (installs_of (story script arrivals))
  story_codes arrivals bytes = codes_before (story script arrivals) (replay script arrivals) (story_grows arrivals) (replay_codes arrivals bytes)

  -- lines that lead to the last frame can be completed, whether the capture has a fault or not
  pub story_lines : (end : Option PcapError) (arrivals : List Arrival) (lines : List (List ℕ)) → All HasBytes arrivals → Leads (story script arrivals) (frames_of arrivals) lines
      → (rest : List (List ℕ)) × TellsAll end script arrivals (lines ++ rest)
  story_lines None arrivals lines bytes lead =
      leads_report script arrivals lines (replay_codes arrivals bytes)
      (leads_told (story script arrivals) (replay script arrivals) (frames_of arrivals) lines (story_grows arrivals) lead)
  story_lines (Some fault) arrivals lines bytes lead = leads_story script arrivals lines (story_codes arrivals bytes) lead

  pub records_grow : (given later : List Handed) → Grows HasRoom (records_course script given).told (records_course script (given ++ later)).told
  records_grow given later =
      let fit = (arrivals_room (begun script) (arrivals_told given) (begun_fits script fits)).filter in
      subst (λ (c : Course). Grows HasRoom (records_course script given).told c.told) (sym (records_course-append script given later))
      (arrivals_room (records_course script given) (arrivals_told later) fit).told

  pub records_codes : (given : List Handed) → All IsOfBytes given → AllHaveCodes (installs_of (records_course script given).told)
  unfolding course
  records_codes given are = story_codes (arrivals_told given) (handed_have_bytes given are)

  -- lines that lead to the frame of one record can be completed over all records
  pub records_lines : (end : Option PcapError) (given later : List Handed) (lines : List (List ℕ)) → All IsOfBytes (given ++ later) → Leads (records_course script given).told (records_frames given) lines
      → (rest : List (List ℕ)) × TellsAll end script (arrivals_told (given ++ later)) (lines ++ rest)
  unfolding course
  records_lines end given later lines are lead =
      let all = given ++ later in
      let further = leads_grown (records_course script given).told (records_course script all).told (records_frames given) (records_frames later) lines (records_grow given later) lead in
      story_lines end (arrivals_told all) lines (handed_have_bytes all are)
      (subst (λ (fs : List (List ℕ)). Leads (records_course script all).told fs lines) (sym (records_frames-append given later)) further)
