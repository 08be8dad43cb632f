-- The steps follow their plans.
use Rattle.std.proofs.Common.{◌≡◌, ◌≤◌, ◌<◌, ◌∷◌, [], ℕ, List, length, IfSome, IfOk, OnOk, IfErr, Result, Ok, Err, refl, ap, sym, ◌∙◌, append-nil, subst}
use Rattle.std.specs.Io.KnownBytes.{Appends, IsAtEnd}
use Rattle.hex.specs.Hex.{IsBytes}
use Rattle.apf_base.specs.Causes.{Rose}
use Rattle.apf_base.specs.Streams.{AppendsPart}
use Rattle.command_plan.specs.declared.fault.Input.{Input}
use Rattle.command_plan.specs.declared.fault.Refusal.TheVariants as refusals
use Rattle.command_plan.specs.declared.fault.Fault.{Fault}
use Rattle.command_plan.specs.declared.fault.Fault.TheVariants.{Usage, Refused, OutOfMemory, Read, Write, Open, Board}
use Rattle.command_plan.specs.Files.{FileFails, file_limit}
use Rattle.command_plan.specs.Plan.{asks, says}
use Rattle.command_plan.specs.Follows.{Stage, Later, Idle, Follows}
use Rattle.command_plan.specs.Follows as f
use Rattle.command_plan.proofs.Stages.{rests_refl}

module _ (input : Input) (path : List ℕ) (a b : Stage) where
  asks_failed : (fault : Fault) → Idle a b → FileFails input (IfSome (a.shelf.file path) (λ told. file_limit input.kind < length told)) fault
      → ((which : Input) → ◌≡◌ {A = Result (List ℕ) Fault} (Err fault) (Err (Read which)) → Rose a.shelf.faults b.shelf.faults)
      → ((which : Input) → ◌≡◌ {A = Result (List ℕ) Fault} (Err fault) (Err (Open which)) → Rose a.shelf.misses b.shelf.misses) → Follows (asks input path) a b (Err fault)
  unfolding Follows
  asks_failed OutOfMemory idle how unread unopened = f.Asks.no_memory (record { is = refl; idle = idle })
  asks_failed (Read which) idle how unread unopened = f.Asks.unread (record { is = ap (λ (i : Input). Err (Read i)) how; idle = idle }) (unread which refl)
  asks_failed (Open which) idle how unread unopened = f.Asks.unopened (record { is = ap (λ (i : Input). Err (Open i)) how; idle = idle }) (unopened which refl)
  asks_failed (Refused (refusals.TooLong which)) idle how unread unopened =
      f.Asks.too_long (record { is = ap (λ (i : Input). Err (Refused (refusals.TooLong i))) how.0; idle = idle }) how.1
  asks_failed (Refused (refusals.BadCapture fault)) idle how unread unopened = absurd how
  asks_failed (Refused (refusals.BadScript line kind)) idle how unread unopened = absurd how
  asks_failed (Refused (refusals.BadText line kind)) idle how unread unopened = absurd how
  asks_failed (Refused (refusals.Twice item label)) idle how unread unopened = absurd how
  asks_failed (Refused (refusals.Unknown item label)) idle how unread unopened = absurd how
  asks_failed (Refused (refusals.Backward item label)) idle how unread unopened = absurd how
  asks_failed (Refused refusals.CodeTooLong) idle how unread unopened = absurd how
  asks_failed (Refused (refusals.TooLarge need limit)) idle how unread unopened = absurd how
  asks_failed Usage idle how unread unopened = absurd how
  asks_failed Write idle how unread unopened = absurd how
  asks_failed Board idle how unread unopened = absurd how

  -- a file was read, or not
  pub asks_by : (result : Result (List ℕ) Fault) → Idle a b
      → IfOk result (λ bytes. IfSome (a.shelf.file path) (λ told. bytes ≡ told)) → IfOk result (λ bytes. length bytes ≤ file_limit input.kind) → IfOk result IsBytes
      → OnOk result (IsAtEnd b.shelf.left) → IfErr result (FileFails input (IfSome (a.shelf.file path) (λ told. file_limit input.kind < length told)))
      → ((which : Input) → result ≡ Err (Read which) → Rose a.shelf.faults b.shelf.faults)
      → ((which : Input) → result ≡ Err (Open which) → Rose a.shelf.misses b.shelf.misses) → Follows (asks input path) a b result
  unfolding Follows
  asks_by (Ok bytes) idle told fits are whole how unread unopened =
      f.Asks.asked bytes b (record { fits = fits; are = are; same = told }) idle whole (f.Ends.ended refl (rests_refl b))
  asks_by (Err fault) idle told fits are whole how unread unopened = asks_failed fault idle how unread unopened

module _ (line : List ℕ) (a b : Stage) where
  pub said : Later a b → b.shelf.left ≡ a.shelf.left → Appends a.out.held b.out.held line → Follows (says (line ∷ [])) a b (Ok tt)
  unfolding Follows
  said later left appends =
      f.Says.said b later left (subst (λ (l : List ℕ). Appends a.out.held b.out.held l) (sym (append-nil line)) appends) (f.Ends.ended refl (rests_refl b))

  pub unsaid : Later a b → b.shelf.left ≡ a.shelf.left → Rose a.out.faults b.out.faults → AppendsPart a.out.held b.out.held line → Follows (says (line ∷ [])) a b (Err Write)
  unfolding Follows
  unsaid later left rose part = f.Says.unwritten refl later left rose (part.0, part.1, append-nil line ∙ part.2, part.3, part.4)
