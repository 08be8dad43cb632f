-- Where a call broke off by a failed write.
use Rattle.std.proofs.Common.{◌≡◌, inl, inr, ℕ, List, [], ◌++◌, Option, Result, Ok, Err, refl, sym, ap, subst, ◌∙◌, append_assoc}
use Rattle.std.specs.List.{concat}
use Rattle.std.specs.Io.KnownBytes.{Appends, Keeps}
use Rattle.std.proofs.KnownBytes.{Appends-trans}
use Rattle.std.proofs.lemmas.List.Folds.{concat-append}
use Rattle.apf_base.specs.Streams.{AppendsAll}
use Rattle.command_plan.specs.declared.fault.Refusal.TheVariants.{TooLong}
use Rattle.command_plan.specs.declared.fault.Fault.{Fault}
use Rattle.command_plan.specs.declared.fault.Fault.TheVariants as faults
use Rattle.command_plan.specs.Breaking.{BreaksWithin, MayBreak, MayBreakBy}
use Rattle.command_plan.specs.Meaning.{CommandMeaning, nothing, command, Does}
use Rattle.command_plan.specs.Status.{status_of}
use Rattle.command_plan.specs.Plan.{Plan, Done, Refuse, Ask, OpenCapture, TakeNext, Pick, Say, RunLanes}
use Rattle.command_plan.specs.Follows.{Stage, Later, Follows}
use Rattle.command_plan.specs.Follows as f
use Rattle.command_plan.proofs.Endings.{ended_unwritten}
use Rattle.command_plan.proofs.Stages.{Appends-before}

-- ---- what stands on the sink

within_kept : (a c b : Option (List ℕ)) (before these : List (List ℕ)) → Keeps a c → BreaksWithin c b before these → BreaksWithin a b before these
within_kept a c b before these kept h = (h.0, h.1, h.2, h.3, Appends-before a c b (concat before ++ h.0) kept h.4)

within_behind : (a c b : Option (List ℕ)) (lines before these : List (List ℕ)) → AppendsAll a c lines → BreaksWithin c b before these → BreaksWithin a b (lines ++ before) these
within_behind a c b lines before these all h =
    let joined : concat lines ++ (concat before ++ h.0) ≡ concat (lines ++ before) ++ h.0 = sym (append_assoc (concat lines) (concat before) h.0) ∙ ap (λ l. l ++ h.0) (sym (concat-append lines before)) in
    (h.0, h.1, h.2, h.3, subst (λ (bytes : List ℕ). Appends a b bytes) joined (Appends-trans a c b (concat lines) (concat before ++ h.0) all h.4))

-- ---- a plan that was followed

module _ {A : Type 0} where
  may_break_at : (p : Plan A) (a c : Stage) (before these : List (List ℕ)) (now : Option (List ℕ)) → Later a c → MayBreak p c.shelf.file c.shelf.left before these now
      → MayBreak p a.shelf.file c.shelf.left before these now
  may_break_at p a c before these now l h = subst (λ (files : List ℕ → Option (List ℕ)). MayBreak p files c.shelf.left before these now) l.files h

  abbrev pub Breaks : Plan A → Stage → Stage → Type 0
  Breaks p a b =
      (before : List (List ℕ)) × (these : List (List ℕ)) × MayBreak p a.shelf.file a.shelf.left before these b.shelf.left × BreaksWithin a.out.held b.out.held before these

  -- another end is no failed write
  unbroken : {P : Type 0} (r end : Result A Fault) → r ≡ end → r ≡ Err faults.Write → (end ≡ Err faults.Write → ⊥) → P
  unbroken r end other is not = absurd (not (sym other ∙ is))

  -- where a write failed, it broke off within lines of the plan
  pub breaks : (p : Plan A) (a b : Stage) (r : Result A Fault) → Follows p a b r → r ≡ Err faults.Write → Breaks p a b
  unfolding Follows MayBreak
  breaks (Done x) a b r (f.Ends.no_memory h) is = unbroken r (Err faults.OutOfMemory) h.is is (λ e. cc)
  breaks (Done x) a b r (f.Ends.ended end s) is = unbroken r (Ok x) end is (λ e. cc)
  breaks (Refuse refusal) a b r (f.Ends.no_memory h) is = unbroken r (Err faults.OutOfMemory) h.is is (λ e. cc)
  breaks (Refuse refusal) a b r (f.Ends.ended end s) is = unbroken r (Err (faults.Refused refusal)) end is (λ e. cc)
  breaks (Ask input path rest) a b r (f.Asks.no_memory h) is = unbroken r (Err faults.OutOfMemory) h.is is (λ e. cc)
  breaks (Ask input path rest) a b r (f.Asks.unopened h rose) is = unbroken r (Err (faults.Open input)) h.is is (λ e. cc)
  breaks (Ask input path rest) a b r (f.Asks.unread h rose) is = unbroken r (Err (faults.Read input)) h.is is (λ e. cc)
  breaks (Ask input path rest) a b r (f.Asks.too_long h told) is = unbroken r (Err (faults.Refused (TooLong input))) h.is is (λ e. cc)
  breaks (Ask input path rest) a b r (f.Asks.asked bytes c held idle whole more) is =
      let all = breaks (rest bytes) c b r more is in (
        all.0,
        all.1,
        (bytes, held, c.shelf.left, whole, may_break_at (rest bytes) a c all.0 all.1 b.shelf.left idle.later all.2),
        within_kept a.out.held c.out.held b.out.held all.0 all.1 idle.held all.3,
      )
  breaks (OpenCapture input path rest) a b r (f.Opens.no_memory h) is = unbroken r (Err faults.OutOfMemory) h.is is (λ e. cc)
  breaks (OpenCapture input path rest) a b r (f.Opens.unopened h rose) is = unbroken r (Err (faults.Open input)) h.is is (λ e. cc)
  breaks (OpenCapture input path rest) a b r (f.Opens.unread h rose) is = unbroken r (Err (faults.Read input)) h.is is (λ e. cc)
  breaks (OpenCapture input path rest) a b r (f.Opens.opened found c tells idle behind more) is =
      let all = breaks (rest found) c b r more is in (
        all.0,
        all.1,
        (found, tells, c.shelf.left, behind, may_break_at (rest found) a c all.0 all.1 b.shelf.left idle.later all.2),
        within_kept a.out.held c.out.held b.out.held all.0 all.1 idle.held all.3,
      )
  breaks (TakeNext input amount rest) a b r (f.Takes.no_memory h) is = unbroken r (Err faults.OutOfMemory) h.is is (λ e. cc)
  breaks (TakeNext input amount rest) a b r (f.Takes.unread h rose) is = unbroken r (Err (faults.Read input)) h.is is (λ e. cc)
  breaks (TakeNext input amount rest) a b r (f.Takes.taken c idle took more) is =
      let all = breaks rest c b r more is in (
        all.0,
        all.1,
        (c.shelf.left, took, may_break_at rest a c all.0 all.1 b.shelf.left idle.later all.2),
        within_kept a.out.held c.out.held b.out.held all.0 all.1 idle.held all.3,
      )
  breaks (Pick P rest) a b r (f.Picks.no_memory h) is = unbroken r (Err faults.OutOfMemory) h.is is (λ e. cc)
  breaks (Pick P rest) a b r (f.Picks.picked x has more) is =
      let all = breaks (rest x) a b r more is in
      (all.0, all.1, (x, has, all.2), all.3)
  breaks (Say lines rest) a b r (f.Says.no_memory end l first) is = unbroken r (Err faults.OutOfMemory) end is (λ e. cc)
  breaks (Say lines rest) a b r (f.Says.unwritten end l left rose part) is = ([], lines, inl (refl, refl, left), part)
  breaks (Say lines rest) a b r (f.Says.said c l left appends more) is =
      let all = breaks rest c b r more is in
      let there = may_break_at rest a c all.0 all.1 b.shelf.left l all.2 in (
        lines ++ all.0,
        all.1,
        inr (all.0, refl, subst (λ (bytes : Option (List ℕ)). MayBreak rest a.shelf.file bytes all.0 all.1 b.shelf.left) left there),
        within_behind a.out.held c.out.held b.out.held lines all.0 all.1 appends all.3,
      )
  breaks (RunLanes rest) a b r (f.RunsLanes.no_memory h) is = unbroken r (Err faults.OutOfMemory) h.is is (λ e. cc)
  breaks (RunLanes rest) a b r (f.RunsLanes.refused h rose) is = unbroken r (Err faults.Board) h.is is (λ e. cc)
  breaks (RunLanes rest) a b r (f.RunsLanes.ran c s more) is =
      let all = breaks rest c b r more is in
      let there = may_break_at rest a c all.0 all.1 b.shelf.left s.idle.later all.2 in (
        all.0,
        all.1,
        subst (λ (bytes : Option (List ℕ)). MayBreak rest a.shelf.file bytes all.0 all.1 b.shelf.left) s.left there,
        within_kept a.out.held c.out.held b.out.held all.0 all.1 s.idle.held all.3,
      )

-- ---- words

pub does_breaks : (a b : Stage) (end : Result (Unit {0}) Fault) (m : CommandMeaning) → Does m a b end → status_of end ≡ 72
    → (before : List (List ℕ)) × (these : List (List ℕ)) × MayBreakBy m a.shelf.file a.shelf.left before these b.shelf.left × BreaksWithin a.out.held b.out.held before these
does_breaks a b end nothing (f.Ends.no_memory h) is = unbroken end (Err faults.OutOfMemory) h.is (ended_unwritten end is) (λ e. cc)
does_breaks a b end nothing (f.Ends.ended wrong s) is = unbroken end (Err faults.Usage) wrong (ended_unwritten end is) (λ e. cc)
does_breaks a b end (command p) h is = breaks p a b end h (ended_unwritten end is)
