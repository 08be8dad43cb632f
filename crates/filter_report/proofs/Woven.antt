-- A replay whose frames come in a record at a time goes by its plan: what was taken so far, and how the call may end there.
use Rattle.std.proofs.Common.{◌≡◌, ◌≤◌, ◌+◌, ◌-◌, ℕ, List, [], ◌∷◌, ◌++◌, length, length-append, fold, take, drop, take-append-drop, Option, None, Some, IfSome, Result, Ok, Err, refl, ap, sym, subst, ◌∙◌, append_assoc, arith}
use Rattle.std.specs.Io.KnownBytes.{IsAtEnd}
use Rattle.std.proofs.lemmas.List.{length-map, length-take}
use Rattle.hex.specs.Hex.{IsBytes}
use Rattle.apf_base.specs.Causes.{Rose}
use Rattle.pcap_files.specs.Stream.{Handed, Told, Reader, rest_of, told_end, after_given}
use Rattle.pcap_files.specs.declared.kinds.Stamp.{Stamp}
use Rattle.pcap_files.specs.declared.fault.PcapError.{PcapError}
use Rattle.apf_generate.specs.Ranges.{IsScript}
use Rattle.policy_state.specs.States.{start}
use Rattle.policy_state.specs.declared.basis.Script.{Script}
use Rattle.size_fit.specs.Sizes.{base, limit_of}
use Rattle.filter_core.proofs.Growing.{Grows}
use Rattle.filter_core.proofs.SoundBases.{HasRoom}
use Rattle.filter_core.specs.Standing.{Standing}
use Rattle.filter_core.specs.Replay.{Course, Entry, begun, after_arrival, course, installs_of, replay, story}
use Rattle.command_plan.proofs.Following.{then_pick}
use Rattle.command_plan.proofs.Saying.{all_said}
use Rattle.command_plan.proofs.Streaming.{GivenSo, given_none, given_more, tells_end, tells_first, taken_bytes}
use Rattle.command_plan.proofs.Texts.{first_said, part_said}
use Rattle.command_plan.proofs.Weaving.{WovenSo, woven_none, woven_more, woven_unread, woven_lacks, woven_short, woven_unsaid, woven_refused, woven_whole}
use Rattle.command_plan.specs.Follows.{Stage, Later, Idle, Follows, Shelving, Sinking, stage, stage_beside, shelving, sinking}
use Rattle.command_plan.specs.Plan.{MayTell, says}
use Rattle.command_plan.specs.Records.{HasOpened, HandsOut, NextFails}
use Rattle.command_plan.specs.Weaving.{Share, weaves_all}
use Rattle.command_plan.specs.declared.fault.Input.{Input}
use Rattle.command_plan.specs.declared.fault.Refusal.TheVariants as refusals
use Rattle.command_plan.specs.declared.fault.Fault.{Fault}
use Rattle.command_plan.specs.declared.fault.Fault.TheVariants.{Usage, Refused, OutOfMemory, Read, Write, Open, Board}
use Rattle.filter_report.proofs.Completing.{records_course, records_frames, records_course-append, records_frames-append, story_grows, replay_codes, handed_have_bytes, records_grow, records_codes, records_lines}
use Rattle.filter_report.proofs.Leading.{along_tells, leads, leads_tells, leads_report}
use Rattle.filter_core.specs.Arrivals.{frames_of}
use Rattle.filter_report.specs.Along.{Along, Reporting, InCourse}
use Rattle.filter_report.specs.Faults.{command_fault}
use Rattle.filter_report.specs.Lines.{Adds, BreaksOff}
use Rattle.filter_report.specs.Report.{AllHaveCodes, Leads, Tells, ended}
use Rattle.filter_report.specs.Streaming.{TellsAll, IsReplayed, HasBegun, arrival_told, arrivals_told, record_shares, replays}
use Rattle.filter_report.specs.Text.{entry_line, entry_lines}
use Rattle.filter_report.specs.declared.fault.ReportFault.{ReportFault}
use Rattle.filter_report.specs.declared.fault.ReportFault.TheVariants as reports

-- ---- an entry, a line

entry_lines-count : (programs : List (List ℕ)) (steps : List ℕ) (entries : List Entry) → length (entry_lines programs steps entries) ≡ length entries
unfolding entry_lines
entry_lines-count programs steps entries = length-map entries (entry_line programs steps)

tells_count : (entries : List Entry) (frames lines : List (List ℕ)) → Tells entries frames lines → length lines ≡ length entries
tells_count entries frames lines t = ap length t.telling ∙ entry_lines-count t.programs _ entries

along_count : (c : Course) (core : Standing) (frames lines : List (List ℕ)) → Along c core frames lines → length lines ≡ length c.told
along_count c core frames lines a = tells_count c.told frames lines (along_tells c core frames lines a)

-- lines that begin a text are no more than its entries
leads_count : (told : List Entry) (frames lines : List (List ℕ)) → AllHaveCodes (installs_of told) → Leads told frames lines → length lines ≤ length told
leads_count told frames lines have lead =
    let r = leads_tells told frames lines have lead in
    omega (arith, tells_count told frames (lines ++ r.0) r.1, length-append lines r.0)

grows_count : (told all : List Entry) → Grows HasRoom told all → length told ≤ length all
grows_count told all g = omega (arith, ap length g.is, length-append told g.more)

-- the lines over all records are no fewer than the entries up to one of them
module _ (script : Script) (sound : IsScript script) (fits : base script.config start ≤ limit_of script.config) where
  records_count : (end : Option PcapError) (given later : List Handed) (lines : List (List ℕ)) → TellsAll end script (arrivals_told (given ++ later)) lines
      → length (records_course script given).told ≤ length lines
  unfolding course
  records_count None given later lines tells =
      let arrivals = arrivals_told (given ++ later) in
      let first = grows_count (records_course script given).told (story script arrivals) (records_grow script sound fits given later) in
      let then = grows_count (story script arrivals) (replay script arrivals) (story_grows script sound fits arrivals) in
      omega (arith, first, then, tells_count (replay script arrivals) (frames_of arrivals) lines tells)
  records_count (Some fault) given later lines tells =
      let arrivals = arrivals_told (given ++ later) in
      let first = grows_count (records_course script given).told (story script arrivals) (records_grow script sound fits given later) in
      omega (arith, first, tells_count (story script arrivals) (frames_of arrivals) lines tells)

-- ---- shares

pub shares-append : (c : Course) (xs ys : List Handed) → record_shares c (xs ++ ys) ≡ record_shares c xs ++ record_shares (fold after_arrival c (arrivals_told xs)) ys
unfolding record_shares
shares-append c [] ys = refl
shares-append c (x ∷ xs) ys =
    let next = after_arrival c (arrival_told x) in
    ap (λ (shares : List Share). record { size = 16 + length x.frame; count = length next.told - length c.told } ∷ shares) (shares-append next xs ys)

-- that of one record more
shares-one : (c : Course) (xs : List Handed) (x : Handed) → (let d = fold after_arrival c (arrivals_told xs) in
    record_shares c (xs ++ x ∷ []) ≡ record_shares c xs ++ record { size = 16 + length x.frame; count = length (after_arrival d (arrival_told x)).told - length d.told } ∷ [])
unfolding record_shares
shares-one c xs x = shares-append c xs (x ∷ [])

-- and those of others behind it
shares-seam : (c : Course) (xs : List Handed) (x : Handed) (ys : List Handed) → (let d = fold after_arrival c (arrivals_told xs) in let next = after_arrival d (arrival_told x) in
    record_shares c ((xs ++ x ∷ []) ++ ys) ≡ record_shares c xs ++ (record { size = 16 + length x.frame; count = length next.told - length d.told } ∷ record_shares next ys))
unfolding record_shares
shares-seam c xs x ys = ap (record_shares c) (append_assoc xs (x ∷ []) ys) ∙ shares-append c xs (x ∷ ys)

-- ---- lines of one record, and those behind them

record SplitSo (count : ℕ) (some rest : List (List ℕ)) : Type 0 where
  others : List (List ℕ)
  later : List (List ℕ)
  is : rest ≡ others ++ later
  count_is : count ≡ length (some ++ others)

split : (count : ℕ) (some rest : List (List ℕ)) → length some ≤ count → count ≤ length some + length rest → SplitSo count some rest
split count some rest most least =
    let k = count - length some in
    record {
      others = take k rest;
      later = drop k rest;
      is = sym (take-append-drop k rest);
      count_is = omega (arith, length-append some (take k rest), length-take k rest);
    }

lines-seam : (done some others later rest : List (List ℕ)) → rest ≡ others ++ later → (done ++ some) ++ rest ≡ done ++ ((some ++ others) ++ later)
lines-seam done some others later rest is =
    append_assoc done some rest ∙ ap (λ (l : List (List ℕ)). done ++ l) (ap (λ (l : List (List ℕ)). some ++ l) is ∙ sym (append_assoc some others later))

-- ---- what was taken so far

-- Of these records each was taken, and its lines were written, which tell the replay so far.
pub record TakenSo (input : Input) (script : Script) (line : List ℕ) (bytes : Option (List ℕ)) (f : Reporting) (reader : Reader) (a c : Stage) : Type 0 where
  pub given : List Handed
  pub done : List (List ℕ)
  pub records : GivenSo bytes reader c.shelf.left given
  pub woven : WovenSo input (record_shares (begun script) given) done a c
  pub course : InCourse (records_course script given) f (records_frames given) (line ∷ done)

pub taken_none : (input : Input) (script : Script) (line : List ℕ) (bytes : Option (List ℕ)) (f : Reporting) (reader : Reader) (a : Stage)
    → HasBegun script f (line ∷ []) → HasOpened bytes a.shelf.left reader → TakenSo input script line bytes f reader a a
unfolding record_shares
taken_none input script line bytes f reader a h opened = record {
  given = [];
  done = [];
  records = given_none bytes a.shelf.left reader opened;
  woven = woven_none input a;
  course = h.course;
}

-- ---- how the call goes

-- there is something that the capture may tell, by which the call went so
abbrev pub Goes : Input → Script → List ℕ → Option (List ℕ) → Stage → Stage → Result (Unit {0}) Fault → Type 0
Goes input script line bytes a b r = (found : Told) × MayTell bytes found × Follows (replays input script line found) a b r

-- these are all lines, of which those of the records were written as they came
told_so : (input : Input) (script : Script) (line : List ℕ) (bytes : Option (List ℕ)) (found : Told) (more : List (List ℕ)) (a b : Stage) (r : Result (Unit {0}) Fault)
    → MayTell bytes found → IsReplayed script found (line ∷ more) → Follows (weaves_all input found.end (record_shares (begun script) found.list) more) a b r → Goes input script line bytes a b r
told_so input script line bytes found more a b r tells is goes = (
  found,
  tells,
  then_pick (λ (l : List (List ℕ)). IsReplayed script found (line ∷ l)) (λ (l : List (List ℕ)). weaves_all input found.end (record_shares (begun script) found.list) l) more a b r is goes,
)

module _ (input : Input) (script : Script) (line : List ℕ) (bytes : Option (List ℕ)) (f : Reporting) (reader : Reader) (a c : Stage) (so : TakenSo input script line bytes f reader a c) where
  abbrev Before : Course
  Before = records_course script so.given

  abbrev Frames : List (List ℕ)
  Frames = records_frames so.given

  module _ (new : Reader) (frame : List ℕ) (stamp : Stamp) where
    abbrev This : Handed
    This = record { stamp = stamp; at = reader.at; frame = frame }

    abbrev Given : List Handed
    Given = so.given ++ This ∷ []

    abbrev After : Course
    After = after_arrival Before (arrival_told This)

    course_is : records_course script Given ≡ After
    course_is = records_course-append script so.given (This ∷ [])

    frames_are : records_frames Given ≡ Frames ++ frame ∷ []
    frames_are = records_frames-append so.given (This ∷ [])

    -- one record more
    pub taken_more : (g : Reporting) (d e : Stage) → HandsOut reader new c.shelf.left d.shelf.left frame stamp → IsBytes frame → Idle c d → Later d e → e.shelf.left ≡ d.shelf.left
        → Adds (InCourse Before f Frames) (InCourse After g (Frames ++ frame ∷ [])) d.out.held e.out.held → TakenSo input script line bytes g new a e
    taken_more g d e hands are idle later left adds =
        let more = adds (line ∷ so.done) so.course in
        let old = along_count Before f.core Frames (line ∷ so.done) so.course.along in
        let now = along_count After g.core (Frames ++ frame ∷ []) ((line ∷ so.done) ++ more.0) more.2.along in
        let count : length more.0 ≡ length After.told - length Before.told = omega (arith, old, now, length-append (line ∷ so.done) more.0) in
        let shares : record_shares (begun script) Given ≡ record_shares (begun script) so.given ++ record { size = 16 + length frame; count = length more.0 } ∷ [] =
        shares-one (begun script) so.given This ∙ ap (λ (n : ℕ). record_shares (begun script) so.given ++ record { size = 16 + length frame; count = n } ∷ []) (sym count) in
        record {
          given = Given;
          done = so.done ++ more.0;
          records = subst (λ (l : Option (List ℕ)). GivenSo bytes new l Given) (sym left) (given_more bytes c.shelf.left d.shelf.left reader new so.given frame stamp so.records hands are);
          woven = subst (λ (xs : List Share). WovenSo input xs (so.done ++ more.0) a e) (sym shares)
              (woven_more input (record_shares (begun script) so.given) so.done more.0 (16 + length frame) a c d e so.woven idle (taken_bytes reader new c.shelf.left d.shelf.left frame stamp hands) later left more.1);
          course = subst (λ (x : Course). InCourse x g (records_frames Given) (line ∷ (so.done ++ more.0))) (sym course_is)
              (subst (λ (x : List (List ℕ)). InCourse After g x (line ∷ (so.done ++ more.0))) (sym frames_are) more.2);
        }

    -- lines that break off within those of this record can be completed over what may be told
    record CompletedSo (some : List (List ℕ)) : Type 0 where
      later : Told
      tells : MayTell bytes (after_given Given later)
      others : List (List ℕ)
      behind : List (List ℕ)
      replayed : IsReplayed script (after_given Given later) (line ∷ (so.done ++ ((some ++ others) ++ behind)))
      count : length After.told - length Before.told ≡ length (some ++ others)

    put_together : (later : Told) (some rest : List (List ℕ)) → MayTell bytes (after_given Given later) → SplitSo (length After.told - length Before.told) some rest
        → IsReplayed script (after_given Given later) (line ∷ ((so.done ++ some) ++ rest)) → CompletedSo some
    put_together later some rest tells parts replayed = record {
      later = later;
      tells = tells;
      others = parts.others;
      behind = parts.later;
      replayed = subst (λ (l : List (List ℕ)). IsReplayed script (after_given Given later) (line ∷ l)) (lines-seam so.done some parts.others parts.later rest parts.is) replayed;
      count = parts.count_is;
    }

    leads_now : (lines : List (List ℕ)) → Leads After.told (Frames ++ frame ∷ []) lines → Leads (records_course script Given).told (records_frames Given) lines
    leads_now lines lead =
        subst (λ (x : Course). Leads x.told (records_frames Given) lines) (sym course_is) (subst (λ (x : List (List ℕ)). Leads After.told x lines) (sym frames_are) lead)

  module _ (sound : IsScript script) (fits : base script.config start ≤ limit_of script.config) where
    -- ---- the end

    module _ (d b : Stage) (idle : Idle c d) (at_end : IsAtEnd d.shelf.left) (none : IfSome c.shelf.left (λ rest. rest_of reader rest ≡ told_end None)) (later : Later d b)
        (left : b.shelf.left ≡ d.shelf.left) where
      ended_so : (last : List (List ℕ)) (r : Result (Unit {0}) Fault) → Tells (ended Before) Frames (line ∷ (so.done ++ last)) → Follows (says last) d b r → Goes input script line bytes a b r
      unfolding course
      ended_so last r tells said =
          told_so input script line bytes (record { list = so.given; end = None }) (so.done ++ last) a b r (tells_end bytes c.shelf.left reader so.given None so.records none) tells
          (woven_whole input (record_shares (begun script) so.given) so.done a c so.woven last d b r idle at_end said)

      -- the whole report was written
      pub all_told : Adds (InCourse Before f Frames) (Tells (ended Before) Frames) d.out.held b.out.held → Goes input script line bytes a b (Ok tt)
      all_told adds =
          let last = adds (line ∷ so.done) so.course in
          ended_so last.0 (Ok tt) last.2 (all_said last.0 d b later left last.1)

      last_lines : (some : List (List ℕ)) → Leads (ended Before) Frames ((line ∷ so.done) ++ some)
          → (rest : List (List ℕ)) × Tells (ended Before) Frames (line ∷ (so.done ++ (some ++ rest)))
      unfolding course
      last_lines some lead =
          let arrivals = arrivals_told so.given in
          let r = leads_report script arrivals ((line ∷ so.done) ++ some) (replay_codes script sound fits arrivals (handed_have_bytes so.given so.records.are)) lead in
          (r.0, subst (λ (l : List (List ℕ)). Tells (ended Before) Frames (line ∷ l)) (append_assoc so.done some r.0) r.1)

      -- it broke off behind the last record
      pub end_breaks : (fault : ReportFault) → ((need limit : ℕ) → fault ≡ reports.TooLarge need limit → ⊥) → (fault ≡ reports.Write → Rose d.out.faults b.out.faults)
          → BreaksOff fault (InCourse Before f Frames) (Leads (ended Before) Frames) d.out.held b.out.held → Goes input script line bytes a b (Err (command_fault fault))
      end_breaks (reports.TooLarge need limit) other rose off = absurd (other need limit refl)
      end_breaks reports.OutOfMemory other rose off =
          let some = off (line ∷ so.done) so.course in
          let all = last_lines some.0 some.2 in
          ended_so (some.0 ++ all.0) (Err OutOfMemory) all.1 (first_said d b later some.0 all.0 some.1)
      end_breaks reports.Write other rose off =
          let some = off (line ∷ so.done) so.course in
          let all = last_lines some.0 some.2 in
          ended_so (some.0 ++ all.0) (Err Write) all.1 (part_said d b later some.0 all.0 left (rose refl) some.1)

    -- ---- before the next record

    module _ (are : IfSome bytes IsBytes) where
      -- behind these lines come others, whatever is still told
      stopped_so : (b : Stage) (r : Result (Unit {0}) Fault)
          → ((end : Option PcapError) (ys : List Share) (later : List (List ℕ)) → Follows (weaves_all input end (record_shares (begun script) so.given ++ ys) (so.done ++ later)) a b r)
          → Goes input script line bytes a b r
      stopped_so b r goes =
          let t = tells_first bytes c.shelf.left reader so.given so.records are in
          let rest = records_lines script sound fits t.0.end so.given t.0.list (line ∷ so.done) t.1.are (leads Before f.core Frames (line ∷ so.done) so.course.along) in
          told_so input script line bytes (after_given so.given t.0) (so.done ++ rest.0) a b r t.1 rest.1
          (subst (λ (xs : List Share). Follows (weaves_all input t.0.end xs (so.done ++ rest.0)) a b r) (sym (shares-append (begun script) so.given t.0.list))
          (goes t.0.end (record_shares Before t.0.list) rest.0))

      refused_so : (fault : PcapError) (b : Stage) → Idle c b → IfSome c.shelf.left (λ rest. rest_of reader rest ≡ told_end (Some fault))
          → Goes input script line bytes a b (Err (Refused (refusals.BadCapture fault)))
      unfolding course
      refused_so fault b idle is =
          told_so input script line bytes (record { list = so.given; end = Some fault }) so.done a b (Err (Refused (refusals.BadCapture fault)))
          (tells_end bytes c.shelf.left reader so.given (Some fault) so.records is) (along_tells Before f.core Frames (line ∷ so.done) so.course.along)
          (woven_refused input (record_shares (begun script) so.given) so.done a c so.woven fault b (Err (Refused (refusals.BadCapture fault))) refl idle)

      -- the next record was not taken
      pub next_fails : (fault : Fault) (b : Stage) → Idle c b → NextFails input reader c.shelf.left fault → ((which : Input) → fault ≡ Read which → Rose c.shelf.faults b.shelf.faults)
          → Goes input script line bytes a b (Err fault)
      next_fails OutOfMemory b idle how rose =
          stopped_so b (Err OutOfMemory) (λ end ys later. woven_lacks input end (record_shares (begun script) so.given) so.done a c so.woven ys later b (Err OutOfMemory) refl idle)
      next_fails (Read which) b idle how rose =
          stopped_so b (Err (Read which))
          (λ end ys later. woven_unread input end (record_shares (begun script) so.given) so.done a c so.woven ys later b (Err (Read which)) (ap (λ (i : Input). Err (Read i)) how) idle (rose which refl))
      next_fails (Refused (refusals.BadCapture fault)) b idle how rose = refused_so fault b idle how
      next_fails (Refused (refusals.BadScript at kind)) b idle how rose = absurd how
      next_fails (Refused (refusals.BadText at kind)) b idle how rose = absurd how
      next_fails (Refused (refusals.Twice item label)) b idle how rose = absurd how
      next_fails (Refused (refusals.Unknown item label)) b idle how rose = absurd how
      next_fails (Refused (refusals.Backward item label)) b idle how rose = absurd how
      next_fails (Refused (refusals.TooLong which)) b idle how rose = absurd how
      next_fails (Refused refusals.CodeTooLong) b idle how rose = absurd how
      next_fails (Refused (refusals.TooLarge need limit)) b idle how rose = absurd how
      next_fails Usage b idle how rose = absurd how
      next_fails Write b idle how rose = absurd how
      next_fails Board b idle how rose = absurd how
      next_fails (Open which) b idle how rose = absurd how

      -- ---- within the lines of a record

      module _ (new : Reader) (frame : List ℕ) (stamp : Stamp) (d b : Stage) (hands : HandsOut reader new c.shelf.left d.shelf.left frame stamp) (frame_are : IsBytes frame) where
        completed : (some : List (List ℕ)) → Leads (After new frame stamp).told (Frames ++ frame ∷ []) ((line ∷ so.done) ++ some) → CompletedSo new frame stamp some
        completed some lead =
            let given = Given new frame stamp in
            let after = After new frame stamp in
            let these = (line ∷ so.done) ++ some in
            let now = given_more bytes c.shelf.left d.shelf.left reader new so.given frame stamp so.records hands frame_are in
            let t = tells_first bytes d.shelf.left new given now are in
            let leading = leads_now new frame stamp these lead in
            let rest = records_lines script sound fits t.0.end given t.0.list these t.1.are leading in
            let most = leads_count (records_course script given).told (records_frames given) these (records_codes script sound fits given now.are) leading in
            let least = records_count script sound fits t.0.end given t.0.list (these ++ rest.0) rest.1 in
            let same : length (records_course script given).told ≡ length after.told = ap (λ (x : Course). length x.told) (course_is new frame stamp) in
            let first = along_count Before f.core Frames (line ∷ so.done) so.course.along in
            let two = length-append (line ∷ so.done) some in
            let three = length-append these rest.0 in
            put_together new frame stamp t.0 some rest.0 t.1 (split (length after.told - length Before.told) some rest.0 (omega arith) (omega arith)) rest.1

        within : (r : Result (Unit {0}) Fault) (some : List (List ℕ)) (all : CompletedSo new frame stamp some)
            → Follows (weaves_all input all.later.end
            (record_shares (begun script) so.given ++ (record { size = 16 + length frame; count = length (After new frame stamp).told - length Before.told } ∷ record_shares (After new frame stamp) all.later.list))
            (so.done ++ ((some ++ all.others) ++ all.behind))) a b r
            → Goes input script line bytes a b r
        within r some all goes =
            let more = so.done ++ ((some ++ all.others) ++ all.behind) in
            told_so input script line bytes (after_given (Given new frame stamp) all.later) more a b r all.tells all.replayed
            (subst (λ (xs : List Share). Follows (weaves_all input all.later.end xs more) a b r) (sym (shares-seam (begun script) so.given (This new frame stamp) all.later.list)) goes)

        -- a record was taken, and the call broke off in its lines
        pub record_breaks : (fault : ReportFault) → Idle c d → Later d b → b.shelf.left ≡ d.shelf.left → ((need limit : ℕ) → fault ≡ reports.TooLarge need limit → ⊥)
            → (fault ≡ reports.Write → Rose d.out.faults b.out.faults)
            → BreaksOff fault (InCourse Before f Frames) (Leads (After new frame stamp).told (Frames ++ frame ∷ [])) d.out.held b.out.held → Goes input script line bytes a b (Err (command_fault fault))
        record_breaks (reports.TooLarge need limit) idle later left other rose off = absurd (other need limit refl)
        record_breaks reports.OutOfMemory idle later left other rose off =
            let some = off (line ∷ so.done) so.course in
            let all = completed some.0 some.2 in
            within (Err OutOfMemory) some.0 all
            (woven_short input all.later.end (record_shares (begun script) so.given) so.done a c so.woven _ (record_shares (After new frame stamp) all.later.list) some.0 all.others all.behind d b (Err OutOfMemory) refl idle
            (taken_bytes reader new c.shelf.left d.shelf.left frame stamp hands) later some.1 all.count)
        record_breaks reports.Write idle later left other rose off =
            let some = off (line ∷ so.done) so.course in
            let all = completed some.0 some.2 in
            within (Err Write) some.0 all
            (woven_unsaid input all.later.end (record_shares (begun script) so.given) so.done a c so.woven _ (record_shares (After new frame stamp) all.later.list) some.0 all.others all.behind d b (Err Write) refl idle
            (taken_bytes reader new c.shelf.left d.shelf.left frame stamp hands) later left (rose refl) some.1 all.count)

-- ---- what is seen

-- of a shelf and of a sink, by what is seen of each
abbrev pub stage_at : {H O : Type 0} → (H → List ℕ → Option (List ℕ)) → (H → Option (List ℕ)) → (H → ℕ) → (H → ℕ) → (O → Option (List ℕ)) → (O → ℕ) → H → O → Stage
stage_at file left faults misses held out_faults shelf out = stage (shelving (file shelf) (left shelf) (faults shelf) (misses shelf)) (sinking (held out) (out_faults out))

-- the sink alone moved on
pub out_alone : (shelf : Shelving) (a b : Sinking) → a.faults ≤ b.faults → Later (stage shelf a) (stage shelf b)
out_alone shelf a b faults = record { files = refl; faults = omega arith; misses = omega arith; out_faults = faults; board = omega arith }

-- what is seen is known to be this
pub goes_seen : (input : Input) (script : Script) (line : List ℕ) (bytes : Option (List ℕ)) (a b : Stage) (shelf shelf_now : Shelving) (out out_now : Sinking) (r : Result (Unit {0}) Fault)
    → shelf ≡ a.shelf → shelf_now ≡ b.shelf → out ≡ a.out → out_now ≡ b.out → Goes input script line bytes a b r
    → Goes input script line bytes (stage_beside shelf out a.board) (stage_beside shelf_now out_now b.board) r
goes_seen input script line bytes a b shelf shelf_now out out_now r e e_now k k_now goes = rw (e, e_now, k, k_now) goes
