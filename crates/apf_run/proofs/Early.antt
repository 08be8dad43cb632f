-- What stands where a call ended early, and what was read where it ended well.
use Rattle.std.proofs.Common.{◌≡◌, ◌⊎◌, inl, inr, ℕ, List, [], ◌∷◌, codes, Option, None, Some, Result, Err, refl, ap, subst, ◌∙◌, append-nil, arith, Bool, true, false, IsTrue}
use Rattle.std.specs.Io.KnownBytes.{Appends, IsAtEnd, Keeps}
use Rattle.apf_base.specs.Streams.{AppendsAll}
use Rattle.pcap_files.specs.declared.fault.PcapError.{PcapError}
use Rattle.command_plan.proofs.Endings.{does_quiet, does_refuse, does_stands, does_whole, leaves_all}
use Rattle.command_plan.specs.Ending.{Leaves}
use Rattle.command_plan.specs.Files.{FileFails, input}
use Rattle.command_plan.specs.Follows.{Stage}
use Rattle.command_plan.specs.Meaning.{CommandMeaning, nothing, command, Does, MayEndBy}
use Rattle.command_plan.specs.Plan.{Plan, IsQuiet, ReadsWhole}
use Rattle.command_plan.specs.Status.{status_of}
use Rattle.command_plan.specs.declared.fault.FileKind.TheVariants as files
use Rattle.command_plan.specs.declared.fault.Fault.{Fault}
use Rattle.command_plan.specs.declared.fault.Input.{Input}
use Rattle.command_plan.specs.declared.fault.Refusal.TheVariants.{TooLong}
use Rattle.command_plan.specs.declared.fault.Fault.TheVariants as faults
use Rattle.apf_run.specs.Commands.{IsNamed, words_meaning}
use Rattle.command_plan.specs.Weaving.{refusal_by}
use Rattle.command_plan.proofs.Texts.{end_of}
use Rattle.apf_run.specs.Filter.{HasOnlyBegun, filter_plan}
use Rattle.apf_run.proofs.FilterWalk.{Came, came, came_by}
use Rattle.apf_run.proofs.FilterWalk as walk
use Rattle.apf_run.proofs.Quiet.{by_words, filter_whole}

-- ---- statuses

-- the status is none of those with which lines stand of each command
pub record IsEarly (status : ℕ) : Type 0 where
  pub ok : status ≡ 0 → ⊥
  pub capture : status ≡ 65 → ⊥
  pub memory : status ≡ 70 → ⊥
  pub write : status ≡ 72 → ⊥

-- and none of those of a capture that can't be opened or read
abbrev pub IsOfNoCapture : ℕ → Type 0
IsOfNoCapture status = (status ≡ 71 → ⊥) × (status ≡ 73 → ⊥)

-- one of a script that is too long, or of a file that can't be opened
abbrev pub IsUnopened : ℕ → Type 0
IsUnopened status = (status ≡ 68) ⊎ (status ≡ 73)

unopened_is_early : (status : ℕ) → IsUnopened status → IsEarly status × (status ≡ 71 → ⊥)
unopened_is_early status (inl h) = (record { ok = λ e. omega arith; capture = λ e. omega arith; memory = λ e. omega arith; write = λ e. omega arith }, λ e. omega arith)
unopened_is_early status (inr h) = (record { ok = λ e. omega arith; capture = λ e. omega arith; memory = λ e. omega arith; write = λ e. omega arith }, λ e. omega arith)

-- how opening a capture fails
opening_status : (which : Input) (fault : Fault) → FileFails which ⊥ fault → (status_of (Err fault) ≡ 70) ⊎ ((status_of (Err fault) ≡ 71) ⊎ (status_of (Err fault) ≡ 73))
opening_status which faults.OutOfMemory h = inl refl
opening_status which (faults.Read other) h = inr (inl refl)
opening_status which (faults.Open other) h = inr (inr refl)
opening_status which (faults.Refused (TooLong other)) h = absurd h.1
opening_status which fault h = absurd h

-- ---- `filter`

appends_nothing : (old new : Option (List ℕ)) → Appends old new [] → Keeps old new
appends_nothing None new h = tt
appends_nothing (Some x) None h = absurd h
appends_nothing (Some x) (Some y) h = h ∙ append-nil x

module _ (file : List ℕ → Option (List ℕ)) (s c : List ℕ) (end : Result (Unit {0}) Fault) (early : IsEarly (status_of end)) (read : status_of end ≡ 71 → ⊥) where
  -- an end behind its lines is none of these
  broken : (end ≡ Err faults.OutOfMemory) ⊎ (end ≡ Err faults.Write) → ⊥
  broken (inl e) = early.memory (ap status_of e)
  broken (inr e) = early.write (ap status_of e)

  done : (o : Option PcapError) → end ≡ end_of (refusal_by o) → ⊥
  done None e = early.ok (ap status_of e)
  done (Some fault) e = early.capture (ap status_of e)

  unwritten : end ≡ Err faults.Write → ⊥
  unwritten e = early.write (ap status_of e)

  keeps : (old new : Option (List ℕ)) (lines : List (List ℕ)) → lines ≡ [] → Leaves old new lines end → Keeps old new
  keeps old new lines nil h = appends_nothing old new (leaves_all old new [] end unwritten (subst (λ (l : List (List ℕ)). Leaves old new l end) nil h))

  -- it ended before its first line
  nothing_said : (old new : Option (List ℕ)) (lines : List (List ℕ)) → (status_of end ≡ 73 → ⊥) → Came file s c end lines → Leaves old new lines end → Keeps old new
  nothing_said old new lines none (walk.Came.before nil not) h = keeps old new lines nil h
  nothing_said old new lines none (walk.Came.within e) h = absurd (broken e)
  nothing_said old new lines none (walk.Came.begun b are fault is fails) h =
      elim (opening_status (input files.Capture 2) fault fails) [
        | inl e ↦ absurd (early.memory (ap status_of is ∙ e))
        | inr more ↦ elim more [
          | inl e ↦ absurd (read (ap status_of is ∙ e))
          | inr e ↦ absurd (none (ap status_of is ∙ e))
        ]
      ]
  nothing_said old new lines none (walk.Came.unread e) h = absurd (read (ap status_of e))
  nothing_said old new lines none (walk.Came.replayed b more are found tells is e) h = absurd (done found.end e)

  -- it ended before its first line, or behind it
  one_said : (old new : Option (List ℕ)) (lines : List (List ℕ)) → Came file s c end lines → Leaves old new lines end → Keeps old new ⊎ HasOnlyBegun (file s) old new
  one_said old new lines (walk.Came.before nil not) h = inl (keeps old new lines nil h)
  one_said old new lines (walk.Came.within e) h = absurd (broken e)
  one_said old new lines (walk.Came.begun b are fault is fails) h =
      inr (b.text, b.held, b.script, b.is, b.line, b.first, subst (λ (l : List (List ℕ)). AppendsAll old new l) are (leaves_all old new lines end unwritten h))
  one_said old new lines (walk.Came.unread e) h = absurd (read (ap status_of e))
  one_said old new lines (walk.Came.replayed b more are found tells is e) h = absurd (done found.end e)

-- where `filter` can't open a file, its first line stands at most
pub only_begun : (file : List ℕ → Option (List ℕ)) (old new : Option (List ℕ)) (s c : List ℕ) (words : List (List ℕ)) (lines : List (List ℕ)) (end : Result (Unit {0}) Fault)
    → words ≡ codes "filter" ∷ s ∷ c ∷ [] → IsUnopened (status_of end) → MayEndBy (words_meaning words) file lines end → Leaves old new lines end
    → Keeps old new ⊎ HasOnlyBegun (file s) old new
only_begun file old new s c words lines end is kind may left =
    let early = unopened_is_early (status_of end) kind in
    one_said file s c end early.0 early.1 old new lines (came_by file s c end words lines is may) left

-- ---- all words

module _ (words : List (List ℕ)) (a b : Stage) (end : Result (Unit {0}) Fault) where
  -- nothing was written too early
  module _ (early : IsEarly (status_of end)) (taken : IsNamed (codes "exec") words → status_of end ≡ 71 → ⊥) (none : IsNamed (codes "filter") words → IsOfNoCapture (status_of end)) where
    abbrev Kept : CommandMeaning → Type 0
    Kept m = Does m a b end → Keeps a.out.held b.out.held

    plan_keeps : (by_and_by : Bool) (plan : Plan (Unit {0})) → IsQuiet by_and_by false plan → (IsTrue by_and_by → status_of end ≡ 71 → ⊥) → Kept (command plan)
    plan_keeps by_and_by plan quiet read h = does_quiet a b end by_and_by (command plan) h quiet early.ok early.capture early.memory early.write read

    never_taken : IsTrue false → status_of end ≡ 71 → ⊥
    never_taken t e = absurd (cc)

    filter_keeps : (s c : List ℕ) → IsNamed (codes "filter") words → Kept (command (filter_plan s c))
    filter_keeps s c named h =
        let all = does_stands a b end (command (filter_plan s c)) h in
        nothing_said a.shelf.file s c end early (none named).0 a.out.held b.out.held all.0 (none named).1 (came a.shelf.file s c end all.0 all.1) all.2

    pub keeps_early : Kept (words_meaning words)
    keeps_early = by_words words Kept (λ h. does_quiet a b end false nothing h tt early.ok early.capture early.memory early.write never_taken)
        (λ plan quiet whole. plan_keeps false plan quiet never_taken) (λ plan quiet whole named. plan_keeps true plan quiet (λ t. taken named))
        (λ plan quiet named. plan_keeps false plan quiet never_taken) filter_keeps

  -- nothing was left unread
  module _ (ok : status_of end ≡ 0) (no_program : IsNamed (codes "program") words → ⊥) (no_make : IsNamed (codes "make") words → ⊥) where
    -- an end that is done has read its last file to the end
    abbrev AtEnd : CommandMeaning → Type 0
    AtEnd m = Does m a b end → IsAtEnd b.shelf.left

    nothing_done : AtEnd nothing
    nothing_done h =
        elim (does_refuse a b end nothing h (λ e. e)) [
          | inl e ↦ absurd (omega (arith, e, ok))
          | inr e ↦ absurd (omega (arith, e, ok))
        ]

    plan_ends : (plan : Plan (Unit {0})) → ReadsWhole false plan → AtEnd (command plan)
    plan_ends plan whole h = does_whole a b end (command plan) h ok whole

    neither : {X : Type 0} → (IsNamed (codes "program") words) ⊎ (IsNamed (codes "make") words) → X
    neither (inl named) = absurd (no_program named)
    neither (inr named) = absurd (no_make named)

    pub reads_all : AtEnd (words_meaning words)
    reads_all = by_words words AtEnd nothing_done (λ plan quiet whole. plan_ends plan whole) (λ plan quiet whole named. plan_ends plan whole) (λ plan quiet named. neither named)
        (λ s c named. plan_ends (filter_plan s c) (filter_whole s c))
