-- A program over the records of a capture, one after another.
use Rattle.std.proofs.Common.{◌≡◌, ◌+◌, ◌∷◌, [], ◌++◌, List, ℕ, Option, None, Some, Result, Ok, Err, length, map, ap, sym, ◌∙◌, subst, refl, append_assoc, append-nil, IfSome}
use Rattle.std.specs.Io.KnownBytes.{IsAtEnd}
use Rattle.apf_base.specs.Causes.{Rose}
use Rattle.apf_coding.specs.declared.machine.Outcome.{Outcome}
use Rattle.apf_coding.specs.Run.{Run, run}
use Rattle.pcap_files.specs.Stream.{Handed, Reader, Told, TakesBytes, first_handed, told_end, after_given, rest_of}
use Rattle.pcap_files.specs.declared.fault.PcapError.{PcapError}
use Rattle.command_plan.specs.declared.fault.FileKind.TheVariants.{Capture}
use Rattle.command_plan.specs.declared.fault.Refusal.TheVariants.{BadCapture}
use Rattle.command_plan.specs.declared.fault.Fault.{Fault}
use Rattle.command_plan.specs.declared.fault.Refusal.TheVariants as refusals
use Rattle.command_plan.specs.declared.fault.Input.{Input}
use Rattle.command_plan.specs.declared.fault.Fault.TheVariants.{Usage, Refused, OutOfMemory, Read, Write, Open, Board}
use Rattle.hex.specs.Hex.{IsBytes}
use Rattle.command_plan.specs.Records.{NextFails}
use Rattle.command_plan.proofs.Streaming.{GivenSo, tells_end, tells_first}
use Rattle.command_plan.specs.Files.{input}
use Rattle.command_plan.specs.Follows.{Stage, Idle, Follows}
use Rattle.command_plan.specs.Follows as f
use Rattle.command_plan.specs.Plan.{Plan, MayTell, says, ◌>>=◌}
use Rattle.command_plan.specs.Weaving.{is_whole, share_of, weaves, weaves_all}
use Rattle.command_plan.proofs.Following.{fails, lacks, then_on}
use Rattle.command_plan.proofs.Weaving.{weaves_unread, woven_none, woven_refused, woven_whole}
use Rattle.code_commands.specs.Exec.{frames_of, runs_over}
use Rattle.code_commands.specs.ExecText.{lines_from, exec_frame_line, memory_line}

-- what is left to be done from a frame on, with this memory, where the capture still tells this
abbrev pub left_over : List ℕ → ℕ → ℕ → List ℕ → Told → Plan (Unit {0})
left_over program age number memory later =
    weaves_all (input Capture 2) later.end (map (share_of 1) later.list) (lines_from (is_whole later.end) program age number memory (frames_of later.list))

-- A call that goes on from here by what is left has done all of it, where these records were given so far.
pub record GoesOn (program : List ℕ) (age number : ℕ) (memory : List ℕ) (given : List Handed) (a c : Stage) : Type 0 where
  pub on : (later : Told) (b : Stage) (r : Result (Unit {0}) Fault) → Follows (left_over program age number memory later) c b r
      → Follows (runs_over program (after_given given later) age) a b r

module _ (program : List ℕ) (age number : ℕ) (memory memory' : List ℕ) (handed : Handed) (outcome : Outcome) (line : List ℕ) (c d : Stage)
    (idle : Idle c d) (taken : TakesBytes (16 + length handed.frame) c.shelf.left d.shelf.left)
    (is_run : record { outcome = outcome; memory = memory' } ≡ run program memory handed.frame age) (is_line : line ≡ exec_frame_line number outcome) where
  -- the line of the frame, as the run has it
  Due : List ℕ
  Due = exec_frame_line number (run program memory handed.frame age).outcome

  is_due : line ≡ Due
  unfolding Due
  is_due = is_line ∙ ap (λ (r : Run). exec_frame_line number r.outcome) is_run

  -- a record was taken, the line of its frame written, and the call went on
  frame_on : (later : Told) (e b : Stage) (r : Result (Unit {0}) Fault) → Follows (says (line ∷ [])) d e (Ok tt) → Follows (left_over program age (number + 1) memory' later) e b r
      → Follows (left_over program age number memory (first_handed handed later)) c b r
  unfolding Due weaves Follows ◌>>=◌
  frame_on later e b r said more =
      let next : Unit {0} → Plan (Unit {0}) = λ _. left_over program age (number + 1) (run program memory handed.frame age).memory later in
      let line_said : Follows (says (Due ∷ [])) d e (Ok tt) = subst (λ (l : List ℕ). Follows (says (l ∷ [])) d e (Ok tt)) is_due said in
      let going : Follows (next tt) e b r = subst (λ (x : Run). Follows (left_over program age (number + 1) x.memory later) e b r) is_run more in
      f.Takes.taken d idle taken (then_on (says (Due ∷ [])) next tt d e b r line_said going)

  -- its line was not written
  pub frame_off : (later : Told) (b : Stage) (r : Result (Unit {0}) Fault) (fault : Fault) → Follows (says (line ∷ [])) d b (Err fault) → r ≡ Err fault
      → Follows (left_over program age number memory (first_handed handed later)) c b r
  unfolding Due weaves Follows ◌>>=◌
  frame_off later b r fault unsaid is =
      let next : Unit {0} → Plan (Unit {0}) = λ _. left_over program age (number + 1) (run program memory handed.frame age).memory later in
      let line_unsaid : Follows (says (Due ∷ [])) d b (Err fault) = subst (λ (l : List ℕ). Follows (says (l ∷ [])) d b (Err fault)) is_due unsaid in
      f.Takes.taken d idle taken (fails (says (Due ∷ [])) next fault d b r is line_unsaid)

  pub goes_further : (given : List Handed) (a e : Stage) → GoesOn program age number memory given a c → Follows (says (line ∷ [])) d e (Ok tt)
      → GoesOn program age (number + 1) memory' (given ++ handed ∷ []) a e
  goes_further given a e so said = record {
    on = λ later b r more.
        subst (λ (list : List Handed). Follows (runs_over program (record { list = list; end = later.end }) age) a b r) (sym (append_assoc given (handed ∷ []) later.list))
        (so.on (first_handed handed later) b r (frame_on later e b r said more));
  }

module _ (program : List ℕ) (age number : ℕ) (memory : List ℕ) (c b : Stage) (r : Result (Unit {0}) Fault) where
  pub off_unread : (later : Told) → r ≡ Err (Read (input Capture 2)) → Idle c b → Rose c.shelf.faults b.shelf.faults → Follows (left_over program age number memory later) c b r
  off_unread later is idle rose = weaves_unread (input Capture 2) later.end (map (share_of 1) later.list) _ c b r is idle rose

  pub off_refused : (fault : PcapError) → r ≡ Err (Refused (BadCapture fault)) → Idle c b → Follows (left_over program age number memory (told_end (Some fault))) c b r
  off_refused fault is idle = woven_refused (input Capture 2) [] [] c c (woven_none (input Capture 2) c) fault b r is idle

  pub ends_so : (line : List ℕ) (d : Stage) → line ≡ memory_line memory → Idle c d → IsAtEnd d.shelf.left → Follows (says (line ∷ [])) d b r
      → Follows (left_over program age number memory (told_end None)) c b r
  ends_so line d is idle at_end said =
      woven_whole (input Capture 2) [] [] c c (woven_none (input Capture 2) c) (memory_line memory ∷ []) d b r idle at_end
      (subst (λ (l : List ℕ). Follows (says (l ∷ [])) d b r) is said)

-- ---- how a call over a capture ends

-- it went by the plan of what the file tells
abbrev pub HasRun : List ℕ → ℕ → Option (List ℕ) → Stage → Stage → Result (Unit {0}) Fault → Type 0
HasRun program age bytes a b r = (found : Told) × MayTell bytes found × Follows (runs_over program found age) a b r

module _ (program : List ℕ) (age number : ℕ) (memory : List ℕ) (given : List Handed) (a c : Stage) (bytes left : Option (List ℕ)) (now : Reader)
    (goes : GoesOn program age number memory given a c) (so : GivenSo bytes now left given) where
  -- it ended with the capture
  pub has_ended : (end : Option PcapError) (b : Stage) (r : Result (Unit {0}) Fault) → IfSome left (λ rest. rest_of now rest ≡ told_end end)
      → Follows (left_over program age number memory (told_end end)) c b r → HasRun program age bytes a b r
  has_ended end b r at_end off = (
    after_given given (told_end end),
    subst (λ (list : List Handed). MayTell bytes (record { list = list; end = end })) (sym (append-nil given)) (tells_end bytes left now given end so at_end),
    goes.on (told_end end) b r off,
  )

  -- it broke off before
  pub has_broken : (b : Stage) (r : Result (Unit {0}) Fault) → IfSome bytes IsBytes → ((later : Told) → Follows (left_over program age number memory later) c b r)
      → HasRun program age bytes a b r
  has_broken b r are off =
      let first = tells_first bytes left now given so are in
      (after_given given first.0, first.1, goes.on first.0 b r (off first.0))

  pub has_lacked : (b : Stage) (r : Result (Unit {0}) Fault) → IfSome bytes IsBytes → r ≡ Err OutOfMemory → Idle c b → HasRun program age bytes a b r
  has_lacked b r are is idle = has_broken b r are (λ later. lacks (left_over program age number memory later) c b r is idle)

  -- the next record was not given
  pub has_failed : (fault : Fault) (b : Stage) (r : Result (Unit {0}) Fault) → IfSome bytes IsBytes → r ≡ Err fault → Idle c b → NextFails (input Capture 2) now left fault
      → ((which : Input) → fault ≡ Read which → Rose c.shelf.faults b.shelf.faults) → HasRun program age bytes a b r
  has_failed OutOfMemory b r are is idle how unread = has_lacked b r are is idle
  has_failed (Read which) b r are is idle how unread =
      has_broken b r are (λ later. off_unread program age number memory c b r later (is ∙ ap (λ (i : Input). Err (Read i)) how) idle (unread which refl))
  has_failed (Refused (BadCapture fault)) b r are is idle how unread = has_ended (Some fault) b r how (off_refused program age number memory c b r fault is idle)
  has_failed (Refused (refusals.BadScript line kind)) b r are is idle how unread = absurd how
  has_failed (Refused (refusals.BadText line kind)) b r are is idle how unread = absurd how
  has_failed (Refused (refusals.Twice item label)) b r are is idle how unread = absurd how
  has_failed (Refused (refusals.Unknown item label)) b r are is idle how unread = absurd how
  has_failed (Refused (refusals.Backward item label)) b r are is idle how unread = absurd how
  has_failed (Refused (refusals.TooLong which)) b r are is idle how unread = absurd how
  has_failed (Refused refusals.CodeTooLong) b r are is idle how unread = absurd how
  has_failed (Refused (refusals.TooLarge need limit)) b r are is idle how unread = absurd how
  has_failed Usage b r are is idle how unread = absurd how
  has_failed Write b r are is idle how unread = absurd how
  has_failed Board b r are is idle how unread = absurd how
  has_failed (Open which) b r are is idle how unread = absurd how

-- the line of a record was not written
pub has_unsaid : (program : List ℕ) (age number : ℕ) (memory : List ℕ) (given : List Handed) (handed : Handed) (a c b : Stage) (bytes left : Option (List ℕ)) (new : Reader)
    (r : Result (Unit {0}) Fault) → GoesOn program age number memory given a c → GivenSo bytes new left (given ++ handed ∷ []) → IfSome bytes IsBytes
    → ((later : Told) → Follows (left_over program age number memory (first_handed handed later)) c b r) → HasRun program age bytes a b r
has_unsaid program age number memory given handed a c b bytes left new r goes so are off =
    let first = tells_first bytes left new (given ++ handed ∷ []) so are in (
      after_given (given ++ handed ∷ []) first.0,
      first.1,
      subst (λ (list : List Handed). Follows (runs_over program (record { list = list; end = (first.0).end }) age) a b r) (sym (append_assoc given (handed ∷ []) (first.0).list))
          (goes.on (first_handed handed first.0) b r (off first.0)),
    )
