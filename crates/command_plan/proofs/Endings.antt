-- What follows from a plan that was followed.
use Rattle.std.proofs.Common.{◌≡◌, ◌<◌, ◌⊎◌, inl, inr, ℕ, List, [], ◌++◌, Option, Result, Ok, Err, refl, sym, ap, subst, ◌∙◌, arith, append-nil, Bool, true, false, IsTrue}
use Rattle.std.specs.Prelude.{⊤}
use Rattle.std.specs.List.{concat}
use Rattle.std.specs.Io.KnownBytes.{Keeps, IsAtEnd}
use Rattle.std.proofs.KnownBytes.{Keeps-trans}
use Rattle.apf_base.specs.Causes.{Rose}
use Rattle.apf_base.specs.Streams.{AppendsAll, AppendsFront}
use Rattle.command_plan.specs.declared.fault.Refusal.{Refusal}
use Rattle.command_plan.specs.declared.fault.Refusal.TheVariants.{BadCapture, BadScript, BadText, Twice, Unknown, Backward, TooLong, CodeTooLong, TooLarge}
use Rattle.command_plan.specs.declared.fault.Fault.{Fault}
use Rattle.command_plan.specs.declared.fault.Fault.TheVariants as faults
use Rattle.command_plan.specs.Amounts.{Amount, whole_record, the_end, a_fault, IsTakenOf, comes_to_end}
use Rattle.command_plan.specs.Files.{FileFails}
use Rattle.command_plan.specs.declared.fault.Input.{Input}
use Rattle.command_plan.specs.Ending.{MayEnd, Leaves, IsOwn, Calm}
use Rattle.command_plan.specs.Meaning.{CommandMeaning, nothing, command, IsAccepted, Does, IsQuietFor, MayEndBy, ReadsWholeFor}
use Rattle.command_plan.specs.Status.{status_of, refusal_status}
use Rattle.command_plan.specs.Plan.{Plan, Done, Refuse, Ask, OpenCapture, TakeNext, Pick, Say, RunLanes, IsQuiet, MayRefuse, ReadsWhole}
use Rattle.command_plan.specs.Follows.{Stage, Later, Follows}
use Rattle.command_plan.specs.Follows as f
use Rattle.command_plan.proofs.Saying.{all_and_all, all_and_front}
use Rattle.command_plan.proofs.Stages.{later_trans, rose_before, Appends-before, front_before, keeps_nil, no_fault, part_front}

-- where the end was to be taken, it was come to
come_to_end : (amount : Amount) (left now : Option (List ℕ)) → IsTakenOf amount left now → IsTrue (comes_to_end amount) → IsAtEnd now
come_to_end (whole_record size) left now taken ends = absurd (cc)
come_to_end the_end left now taken ends = taken
come_to_end a_fault left now taken ends = absurd (cc)

module _ {A : Type 0} where
  -- no count fell, and the files are the same
  pub later : (p : Plan A) (a b : Stage) (r : Result A Fault) → Follows p a b r → Later a b
  unfolding Follows
  later (Done x) a b r (f.Ends.no_memory h) = h.idle.later
  later (Done x) a b r (f.Ends.ended is s) = s.idle.later
  later (Refuse refusal) a b r (f.Ends.no_memory h) = h.idle.later
  later (Refuse refusal) a b r (f.Ends.ended is s) = s.idle.later
  later (Ask input path rest) a b r (f.Asks.no_memory h) = h.idle.later
  later (Ask input path rest) a b r (f.Asks.unopened h rose) = h.idle.later
  later (Ask input path rest) a b r (f.Asks.unread h rose) = h.idle.later
  later (Ask input path rest) a b r (f.Asks.too_long h told) = h.idle.later
  later (Ask input path rest) a b r (f.Asks.asked bytes c held idle whole more) = later_trans a c b idle.later (later (rest bytes) c b r more)
  later (OpenCapture input path rest) a b r (f.Opens.no_memory h) = h.idle.later
  later (OpenCapture input path rest) a b r (f.Opens.unopened h rose) = h.idle.later
  later (OpenCapture input path rest) a b r (f.Opens.unread h rose) = h.idle.later
  later (OpenCapture input path rest) a b r (f.Opens.opened found c tells idle behind more) = later_trans a c b idle.later (later (rest found) c b r more)
  later (TakeNext input amount rest) a b r (f.Takes.no_memory h) = h.idle.later
  later (TakeNext input amount rest) a b r (f.Takes.unread h rose) = h.idle.later
  later (TakeNext input amount rest) a b r (f.Takes.taken c idle took more) = later_trans a c b idle.later (later rest c b r more)
  later (Pick P rest) a b r (f.Picks.no_memory h) = h.idle.later
  later (Pick P rest) a b r (f.Picks.picked x has more) = later (rest x) a b r more
  later (Say lines rest) a b r (f.Says.no_memory is l first) = l
  later (Say lines rest) a b r (f.Says.unwritten is l left rose part) = l
  later (Say lines rest) a b r (f.Says.said c l left appends more) = later_trans a c b l (later rest c b r more)
  later (RunLanes rest) a b r (f.RunsLanes.no_memory h) = h.idle.later
  later (RunLanes rest) a b r (f.RunsLanes.refused h rose) = h.idle.later
  later (RunLanes rest) a b r (f.RunsLanes.ran c s more) = later_trans a c b s.idle.later (later rest c b r more)

  -- ---- causes from outside

  -- a cause from outside has its count, and the words are accepted
  abbrev pub Owes : Stage → Stage → Result A Fault → Type 0
  Owes a b (Err (faults.Read input)) = Rose a.shelf.faults b.shelf.faults
  Owes a b (Err (faults.Open input)) = Rose a.shelf.misses b.shelf.misses
  Owes a b (Err faults.Write) = Rose a.out.faults b.out.faults
  Owes a b (Err faults.Board) = Rose a.board b.board
  Owes a b (Err faults.Usage) = ⊥
  Owes a b result = ⊤

  owes_before : (a c b : Stage) (r : Result A Fault) → Later a c → Owes c b r → Owes a b r
  owes_before a c b (Ok x) l h = tt
  owes_before a c b (Err (faults.Refused refusal)) l h = tt
  owes_before a c b (Err faults.OutOfMemory) l h = tt
  owes_before a c b (Err faults.Usage) l h = h
  owes_before a c b (Err (faults.Read input)) l h = rose_before a.shelf.faults c.shelf.faults b.shelf.faults l.faults h
  owes_before a c b (Err faults.Write) l h = rose_before a.out.faults c.out.faults b.out.faults l.out_faults h
  owes_before a c b (Err (faults.Open input)) l h = rose_before a.shelf.misses c.shelf.misses b.shelf.misses l.misses h
  owes_before a c b (Err faults.Board) l h = rose_before a.board c.board b.board l.board h

  owes_at : (a b : Stage) (r end : Result A Fault) → r ≡ end → Owes a b end → Owes a b r
  owes_at a b r end is h = subst (λ (x : Result A Fault). Owes a b x) (sym is) h

  pub owes : (p : Plan A) (a b : Stage) (r : Result A Fault) → Follows p a b r → Owes a b r
  unfolding Follows
  owes (Done x) a b r (f.Ends.no_memory h) = owes_at a b r (Err faults.OutOfMemory) h.is tt
  owes (Done x) a b r (f.Ends.ended is s) = owes_at a b r (Ok x) is tt
  owes (Refuse refusal) a b r (f.Ends.no_memory h) = owes_at a b r (Err faults.OutOfMemory) h.is tt
  owes (Refuse refusal) a b r (f.Ends.ended is s) = owes_at a b r (Err (faults.Refused refusal)) is tt
  owes (Ask input path rest) a b r (f.Asks.no_memory h) = owes_at a b r (Err faults.OutOfMemory) h.is tt
  owes (Ask input path rest) a b r (f.Asks.unopened h rose) = owes_at a b r (Err (faults.Open input)) h.is rose
  owes (Ask input path rest) a b r (f.Asks.unread h rose) = owes_at a b r (Err (faults.Read input)) h.is rose
  owes (Ask input path rest) a b r (f.Asks.too_long h told) = owes_at a b r (Err (faults.Refused (TooLong input))) h.is tt
  owes (Ask input path rest) a b r (f.Asks.asked bytes c held idle whole more) = owes_before a c b r idle.later (owes (rest bytes) c b r more)
  owes (OpenCapture input path rest) a b r (f.Opens.no_memory h) = owes_at a b r (Err faults.OutOfMemory) h.is tt
  owes (OpenCapture input path rest) a b r (f.Opens.unopened h rose) = owes_at a b r (Err (faults.Open input)) h.is rose
  owes (OpenCapture input path rest) a b r (f.Opens.unread h rose) = owes_at a b r (Err (faults.Read input)) h.is rose
  owes (OpenCapture input path rest) a b r (f.Opens.opened found c tells idle behind more) = owes_before a c b r idle.later (owes (rest found) c b r more)
  owes (TakeNext input amount rest) a b r (f.Takes.no_memory h) = owes_at a b r (Err faults.OutOfMemory) h.is tt
  owes (TakeNext input amount rest) a b r (f.Takes.unread h rose) = owes_at a b r (Err (faults.Read input)) h.is rose
  owes (TakeNext input amount rest) a b r (f.Takes.taken c idle took more) = owes_before a c b r idle.later (owes rest c b r more)
  owes (Pick P rest) a b r (f.Picks.no_memory h) = owes_at a b r (Err faults.OutOfMemory) h.is tt
  owes (Pick P rest) a b r (f.Picks.picked x has more) = owes (rest x) a b r more
  owes (Say lines rest) a b r (f.Says.no_memory is l first) = owes_at a b r (Err faults.OutOfMemory) is tt
  owes (Say lines rest) a b r (f.Says.unwritten is l left rose part) = owes_at a b r (Err faults.Write) is rose
  owes (Say lines rest) a b r (f.Says.said c l left appends more) = owes_before a c b r l (owes rest c b r more)
  owes (RunLanes rest) a b r (f.RunsLanes.no_memory h) = owes_at a b r (Err faults.OutOfMemory) h.is tt
  owes (RunLanes rest) a b r (f.RunsLanes.refused h rose) = owes_at a b r (Err faults.Board) h.is rose
  owes (RunLanes rest) a b r (f.RunsLanes.ran c s more) = owes_before a c b r s.idle.later (owes rest c b r more)

  -- ---- what stands on the sink

  leaves_nothing : (old new : Option (List ℕ)) (r : Result A Fault) → Keeps old new → Leaves old new [] r
  leaves_nothing old new (Ok x) h = keeps_nil old new h
  leaves_nothing old new (Err (faults.Refused refusal)) h = keeps_nil old new h
  leaves_nothing old new (Err faults.OutOfMemory) h = keeps_nil old new h
  leaves_nothing old new (Err faults.Usage) h = keeps_nil old new h
  leaves_nothing old new (Err (faults.Read input)) h = keeps_nil old new h
  leaves_nothing old new (Err (faults.Open input)) h = keeps_nil old new h
  leaves_nothing old new (Err faults.Board) h = keeps_nil old new h
  leaves_nothing old new (Err faults.Write) h = ([], [], refl, keeps_nil old new h)

  leaves_kept : (a b c : Option (List ℕ)) (lines : List (List ℕ)) (r : Result A Fault) → Keeps a b → Leaves b c lines r → Leaves a c lines r
  leaves_kept a b c lines (Ok x) k h = Appends-before a b c (concat lines) k h
  leaves_kept a b c lines (Err (faults.Refused refusal)) k h = Appends-before a b c (concat lines) k h
  leaves_kept a b c lines (Err faults.OutOfMemory) k h = Appends-before a b c (concat lines) k h
  leaves_kept a b c lines (Err faults.Usage) k h = Appends-before a b c (concat lines) k h
  leaves_kept a b c lines (Err (faults.Read input)) k h = Appends-before a b c (concat lines) k h
  leaves_kept a b c lines (Err (faults.Open input)) k h = Appends-before a b c (concat lines) k h
  leaves_kept a b c lines (Err faults.Board) k h = Appends-before a b c (concat lines) k h
  leaves_kept a b c lines (Err faults.Write) k h = front_before a b c (concat lines) k h

  leaves_behind : (a b c : Option (List ℕ)) (xs ys : List (List ℕ)) (r : Result A Fault) → AppendsAll a b xs → Leaves b c ys r → Leaves a c (xs ++ ys) r
  leaves_behind a b c xs ys (Ok x) k h = all_and_all a b c xs ys k h
  leaves_behind a b c xs ys (Err (faults.Refused refusal)) k h = all_and_all a b c xs ys k h
  leaves_behind a b c xs ys (Err faults.OutOfMemory) k h = all_and_all a b c xs ys k h
  leaves_behind a b c xs ys (Err faults.Usage) k h = all_and_all a b c xs ys k h
  leaves_behind a b c xs ys (Err (faults.Read input)) k h = all_and_all a b c xs ys k h
  leaves_behind a b c xs ys (Err (faults.Open input)) k h = all_and_all a b c xs ys k h
  leaves_behind a b c xs ys (Err faults.Board) k h = all_and_all a b c xs ys k h
  leaves_behind a b c xs ys (Err faults.Write) k h = all_and_front a b c xs ys k h

  leaves_at : (a b : Option (List ℕ)) (lines : List (List ℕ)) (r end : Result A Fault) → r ≡ end → Leaves a b lines end → Leaves a b lines r
  leaves_at a b lines r end is h = subst (λ (e : Result A Fault). Leaves a b lines e) (sym is) h

  may_end_at : (p : Plan A) (a c : Stage) (lines : List (List ℕ)) (r : Result A Fault) → Later a c → MayEnd p c.shelf.file lines r → MayEnd p a.shelf.file lines r
  may_end_at p a c lines r l h = subst (λ (files : List ℕ → Option (List ℕ)). MayEnd p files lines r) l.files h

  abbrev pub Stands : Plan A → Stage → Stage → Result A Fault → Type 0
  Stands p a b r = (lines : List (List ℕ)) × MayEnd p a.shelf.file lines r × Leaves a.out.held b.out.held lines r

  -- the sink has got lines with which the plan may end so
  pub stands : (p : Plan A) (a b : Stage) (r : Result A Fault) → Follows p a b r → Stands p a b r
  unfolding Follows MayEnd
  stands (Done x) a b r (f.Ends.no_memory h) = ([], (refl, inr h.is), leaves_nothing a.out.held b.out.held r h.idle.held)
  stands (Done x) a b r (f.Ends.ended is s) = ([], (refl, inl is), leaves_nothing a.out.held b.out.held r s.idle.held)
  stands (Refuse refusal) a b r (f.Ends.no_memory h) = ([], (refl, inr h.is), leaves_nothing a.out.held b.out.held r h.idle.held)
  stands (Refuse refusal) a b r (f.Ends.ended is s) = ([], (refl, inl is), leaves_nothing a.out.held b.out.held r s.idle.held)
  stands (Ask input path rest) a b r (f.Asks.no_memory h) = ([], inl (refl, faults.OutOfMemory, h.is, tt), leaves_nothing a.out.held b.out.held r h.idle.held)
  stands (Ask input path rest) a b r (f.Asks.unopened h rose) = ([], inl (refl, faults.Open input, h.is, refl), leaves_nothing a.out.held b.out.held r h.idle.held)
  stands (Ask input path rest) a b r (f.Asks.unread h rose) = ([], inl (refl, faults.Read input, h.is, refl), leaves_nothing a.out.held b.out.held r h.idle.held)
  stands (Ask input path rest) a b r (f.Asks.too_long h told) =
      ([], inl (refl, faults.Refused (TooLong input), h.is, (refl, told)), leaves_nothing a.out.held b.out.held r h.idle.held)
  stands (Ask input path rest) a b r (f.Asks.asked bytes c held idle whole more) =
      let all = stands (rest bytes) c b r more in (
        all.0,
        inr (bytes, held, may_end_at (rest bytes) a c all.0 r idle.later all.1),
        leaves_kept a.out.held c.out.held b.out.held all.0 r idle.held all.2,
      )
  stands (OpenCapture input path rest) a b r (f.Opens.no_memory h) =
      ([], inl (refl, faults.OutOfMemory, h.is, tt), leaves_nothing a.out.held b.out.held r h.idle.held)
  stands (OpenCapture input path rest) a b r (f.Opens.unopened h rose) =
      ([], inl (refl, faults.Open input, h.is, refl), leaves_nothing a.out.held b.out.held r h.idle.held)
  stands (OpenCapture input path rest) a b r (f.Opens.unread h rose) =
      ([], inl (refl, faults.Read input, h.is, refl), leaves_nothing a.out.held b.out.held r h.idle.held)
  stands (OpenCapture input path rest) a b r (f.Opens.opened found c tells idle behind more) =
      let all = stands (rest found) c b r more in (
        all.0,
        inr (found, tells, may_end_at (rest found) a c all.0 r idle.later all.1),
        leaves_kept a.out.held c.out.held b.out.held all.0 r idle.held all.2,
      )
  stands (TakeNext input amount rest) a b r (f.Takes.no_memory h) = ([], inl (refl, inl h.is), leaves_nothing a.out.held b.out.held r h.idle.held)
  stands (TakeNext input amount rest) a b r (f.Takes.unread h rose) = ([], inl (refl, inr h.is), leaves_nothing a.out.held b.out.held r h.idle.held)
  stands (TakeNext input amount rest) a b r (f.Takes.taken c idle took more) =
      let all = stands rest c b r more in
      (all.0, inr (may_end_at rest a c all.0 r idle.later all.1), leaves_kept a.out.held c.out.held b.out.held all.0 r idle.held all.2)
  stands (Pick P rest) a b r (f.Picks.no_memory h) = ([], inl (refl, inl h.is), leaves_nothing a.out.held b.out.held r h.idle.held)
  stands (Pick P rest) a b r (f.Picks.picked x has more) =
      let all = stands (rest x) a b r more in
      (all.0, inr (x, has, all.1), all.2)
  stands (Say lines rest) a b r (f.Says.no_memory is l first) =
      (first.0, inl ((first.1, first.2), inl is), leaves_at a.out.held b.out.held first.0 r (Err faults.OutOfMemory) is first.3)
  stands (Say lines rest) a b r (f.Says.unwritten is l left rose part) =
      let front : AppendsFront a.out.held b.out.held (concat lines) = part_front a.out.held b.out.held (concat lines) part in
      (lines, inl (([], sym (append-nil lines)), inr is), leaves_at a.out.held b.out.held lines r (Err faults.Write) is front)
  stands (Say lines rest) a b r (f.Says.said c l left appends more) =
      let all = stands rest c b r more in (
        lines ++ all.0,
        inr (all.0, refl, may_end_at rest a c all.0 r l all.1),
        leaves_behind a.out.held c.out.held b.out.held lines all.0 r appends all.2,
      )
  stands (RunLanes rest) a b r (f.RunsLanes.no_memory h) = ([], inl (refl, inl h.is), leaves_nothing a.out.held b.out.held r h.idle.held)
  stands (RunLanes rest) a b r (f.RunsLanes.refused h rose) = ([], inl (refl, inr h.is), leaves_nothing a.out.held b.out.held r h.idle.held)
  stands (RunLanes rest) a b r (f.RunsLanes.ran c s more) =
      let all = stands rest c b r more in
      (all.0, inr (may_end_at rest a c all.0 r s.idle.later all.1), leaves_kept a.out.held c.out.held b.out.held all.0 r s.idle.held all.2)

  -- ---- where no count rose

  pub own : (a b : Stage) (r : Result A Fault) → Owes a b r → Calm a b → (r ≡ Err faults.OutOfMemory) ⊎ IsOwn r
  own a b (Ok x) h q = inr tt
  own a b (Err (faults.Refused refusal)) h q = inr tt
  own a b (Err faults.OutOfMemory) h q = inl refl
  own a b (Err faults.Usage) h q = absurd h
  own a b (Err (faults.Read input)) h q = absurd (q.faults h)
  own a b (Err (faults.Open input)) h q = absurd (q.misses h)
  own a b (Err faults.Write) h q = absurd (q.out_faults h)
  own a b (Err faults.Board) h q = absurd (q.board h)

  -- but for a failed write, whole lines stand
  pub leaves_all : (old new : Option (List ℕ)) (lines : List (List ℕ)) (r : Result A Fault) → (r ≡ Err faults.Write → ⊥) → Leaves old new lines r → AppendsAll old new lines
  leaves_all old new lines (Ok x) not h = h
  leaves_all old new lines (Err (faults.Refused refusal)) not h = h
  leaves_all old new lines (Err faults.OutOfMemory) not h = h
  leaves_all old new lines (Err faults.Usage) not h = h
  leaves_all old new lines (Err (faults.Read input)) not h = h
  leaves_all old new lines (Err (faults.Open input)) not h = h
  leaves_all old new lines (Err faults.Board) not h = h
  leaves_all old new lines (Err faults.Write) not h = absurd (not refl)

  own_written : (r : Result A Fault) → IsOwn r → r ≡ Err faults.Write → ⊥
  own_written r o is = subst (λ (e : Result A Fault). IsOwn e) is o

  -- ---- the file that was opened last

  -- with an answer it was read whole
  pub read_whole : (p : Plan A) (whole : Bool) (a b : Stage) (x : A) → ReadsWhole whole p → (IsTrue whole → IsAtEnd a.shelf.left) → Follows p a b (Ok x) → IsAtEnd b.shelf.left
  unfolding Follows ReadsWhole
  read_whole (Done y) whole a b x h at (f.Ends.no_memory e) = no_fault faults.OutOfMemory a b x e
  read_whole (Done y) whole a b x h at (f.Ends.ended is s) = subst IsAtEnd (sym s.left) (at h)
  read_whole (Refuse refusal) whole a b x h at (f.Ends.no_memory e) = no_fault faults.OutOfMemory a b x e
  read_whole (Refuse refusal) whole a b x h at (f.Ends.ended is s) = absurd (cc)
  read_whole (Ask input path rest) whole a b x h at (f.Asks.no_memory e) = no_fault faults.OutOfMemory a b x e
  read_whole (Ask input path rest) whole a b x h at (f.Asks.unopened e rose) = no_fault (faults.Open input) a b x e
  read_whole (Ask input path rest) whole a b x h at (f.Asks.unread e rose) = no_fault (faults.Read input) a b x e
  read_whole (Ask input path rest) whole a b x h at (f.Asks.too_long e told) = no_fault (faults.Refused (TooLong input)) a b x e
  read_whole (Ask input path rest) whole a b x h at (f.Asks.asked bytes c held idle end more) = read_whole (rest bytes) true c b x (h bytes) (λ _. end) more
  read_whole (OpenCapture input path rest) whole a b x h at (f.Opens.no_memory e) = no_fault faults.OutOfMemory a b x e
  read_whole (OpenCapture input path rest) whole a b x h at (f.Opens.unopened e rose) = no_fault (faults.Open input) a b x e
  read_whole (OpenCapture input path rest) whole a b x h at (f.Opens.unread e rose) = no_fault (faults.Read input) a b x e
  read_whole (OpenCapture input path rest) whole a b x h at (f.Opens.opened found c tells idle behind more) =
      read_whole (rest found) false c b x (h found) (λ t. absurd (cc)) more
  read_whole (TakeNext input amount rest) whole a b x h at (f.Takes.no_memory e) = no_fault faults.OutOfMemory a b x e
  read_whole (TakeNext input amount rest) whole a b x h at (f.Takes.unread e rose) = no_fault (faults.Read input) a b x e
  read_whole (TakeNext input amount rest) whole a b x h at (f.Takes.taken c idle took more) =
      read_whole rest (comes_to_end amount) c b x h (come_to_end amount a.shelf.left c.shelf.left took) more
  read_whole (Pick P rest) whole a b x h at (f.Picks.no_memory e) = no_fault faults.OutOfMemory a b x e
  read_whole (Pick P rest) whole a b x h at (f.Picks.picked y has more) = read_whole (rest y) whole a b x (h y has) at more
  read_whole (Say lines rest) whole a b x h at (f.Says.no_memory is l first) = absurd (cc)
  read_whole (Say lines rest) whole a b x h at (f.Says.unwritten is l left rose part) = absurd (cc)
  read_whole (Say lines rest) whole a b x h at (f.Says.said c l left appends more) = read_whole rest whole c b x h (λ t. subst IsAtEnd (sym left) (at t)) more
  read_whole (RunLanes rest) whole a b x h at (f.RunsLanes.no_memory e) = no_fault faults.OutOfMemory a b x e
  read_whole (RunLanes rest) whole a b x h at (f.RunsLanes.refused e rose) = no_fault faults.Board a b x e
  read_whole (RunLanes rest) whole a b x h at (f.RunsLanes.ran c s more) = read_whole rest whole c b x h (λ t. subst IsAtEnd (sym s.left) (at t)) more

-- ---- plans that read and check everything before they write

module _ {A : Type 0} (by_and_by : Bool) where
  -- an end before the lines of such a plan; where it takes its capture by and by, a failed read may come later
  abbrev pub IsEarly : Result A Fault → Type 0
  IsEarly (Ok x) = ⊥
  IsEarly (Err (faults.Refused (BadCapture fault))) = ⊥
  IsEarly (Err faults.OutOfMemory) = ⊥
  IsEarly (Err faults.Write) = ⊥
  IsEarly (Err (faults.Read input)) = IsTrue by_and_by → ⊥
  IsEarly end = ⊤

  never_early : {P : Type 0} (r end : Result A Fault) → r ≡ end → (IsEarly end → ⊥) → IsEarly r → P
  never_early r end is not early = absurd (not (subst (λ (e : Result A Fault). IsEarly e) is early))

  of_capture : (p : Plan A) (refusal : Refusal) → MayRefuse true refusal → (let end : Result A Fault = Err (faults.Refused refusal) in IsEarly end) → ⊥
  of_capture p (BadCapture fault) may early = early
  of_capture p (BadScript line kind) may early = may
  of_capture p (BadText line kind) may early = may
  of_capture p (Twice item label) may early = may
  of_capture p (Unknown item label) may early = may
  of_capture p (Backward item label) may early = may
  of_capture p (TooLong input) may early = may
  of_capture p CodeTooLong may early = may
  of_capture p (TooLarge need limit) may early = may

  -- behind its lines it doesn't end so
  loud : (p : Plan A) (a b : Stage) (r : Result A Fault) → IsQuiet by_and_by true p → Follows p a b r → IsEarly r → ⊥
  unfolding Follows IsQuiet
  loud (Done x) a b r q (f.Ends.no_memory h) = never_early r (Err faults.OutOfMemory) h.is (λ e. e)
  loud (Done x) a b r q (f.Ends.ended is s) = never_early r (Ok x) is (λ e. e)
  loud (Refuse refusal) a b r q (f.Ends.no_memory h) = never_early r (Err faults.OutOfMemory) h.is (λ e. e)
  loud (Refuse refusal) a b r q (f.Ends.ended is s) = never_early r (Err (faults.Refused refusal)) is (of_capture (Refuse refusal) refusal q)
  loud (Ask input path rest) a b r q h = absurd q.0
  loud (OpenCapture input path rest) a b r q h = absurd q.0
  loud (TakeNext input amount rest) a b r q (f.Takes.no_memory h) = never_early r (Err faults.OutOfMemory) h.is (λ e. e)
  loud (TakeNext input amount rest) a b r q (f.Takes.unread h rose) = never_early r (Err (faults.Read input)) h.is (λ e. e q.0)
  loud (TakeNext input amount rest) a b r q (f.Takes.taken c idle took more) = loud rest c b r q.1 more
  loud (Pick P rest) a b r q (f.Picks.no_memory h) = never_early r (Err faults.OutOfMemory) h.is (λ e. e)
  loud (Pick P rest) a b r q (f.Picks.picked x has more) = loud (rest x) a b r (q x has) more
  loud (Say lines rest) a b r q (f.Says.no_memory is l first) = never_early r (Err faults.OutOfMemory) is (λ e. e)
  loud (Say lines rest) a b r q (f.Says.unwritten is l left rose part) = never_early r (Err faults.Write) is (λ e. e)
  loud (Say lines rest) a b r q (f.Says.said c l left appends more) = loud rest c b r q more
  loud (RunLanes rest) a b r q h = absurd q.0

  -- before them it has written nothing
  quiet : (p : Plan A) (a b : Stage) (r : Result A Fault) → IsQuiet by_and_by false p → Follows p a b r → IsEarly r → Keeps a.out.held b.out.held
  unfolding Follows IsQuiet
  quiet (Done x) a b r q (f.Ends.no_memory h) early = h.idle.held
  quiet (Done x) a b r q (f.Ends.ended is s) early = s.idle.held
  quiet (Refuse refusal) a b r q (f.Ends.no_memory h) early = h.idle.held
  quiet (Refuse refusal) a b r q (f.Ends.ended is s) early = s.idle.held
  quiet (Ask input path rest) a b r q (f.Asks.no_memory h) early = h.idle.held
  quiet (Ask input path rest) a b r q (f.Asks.unopened h rose) early = h.idle.held
  quiet (Ask input path rest) a b r q (f.Asks.unread h rose) early = h.idle.held
  quiet (Ask input path rest) a b r q (f.Asks.too_long h told) early = h.idle.held
  quiet (Ask input path rest) a b r q (f.Asks.asked bytes c held idle whole more) early =
      Keeps-trans a.out.held c.out.held b.out.held idle.held (quiet (rest bytes) c b r (q.1 bytes) more early)
  quiet (OpenCapture input path rest) a b r q (f.Opens.no_memory h) early = h.idle.held
  quiet (OpenCapture input path rest) a b r q (f.Opens.unopened h rose) early = h.idle.held
  quiet (OpenCapture input path rest) a b r q (f.Opens.unread h rose) early = h.idle.held
  quiet (OpenCapture input path rest) a b r q (f.Opens.opened found c tells idle behind more) early =
      Keeps-trans a.out.held c.out.held b.out.held idle.held (quiet (rest found) c b r (q.1 found) more early)
  quiet (TakeNext input amount rest) a b r q (f.Takes.no_memory h) early = h.idle.held
  quiet (TakeNext input amount rest) a b r q (f.Takes.unread h rose) early = h.idle.held
  quiet (TakeNext input amount rest) a b r q (f.Takes.taken c idle took more) early =
      Keeps-trans a.out.held c.out.held b.out.held idle.held (quiet rest c b r q.1 more early)
  quiet (Pick P rest) a b r q (f.Picks.no_memory h) early = h.idle.held
  quiet (Pick P rest) a b r q (f.Picks.picked x has more) early = quiet (rest x) a b r (q x has) more early
  quiet (Say lines rest) a b r q (f.Says.no_memory is l first) early = never_early r (Err faults.OutOfMemory) is (λ e. e) early
  quiet (Say lines rest) a b r q (f.Says.unwritten is l left rose part) early = never_early r (Err faults.Write) is (λ e. e) early
  quiet (Say lines rest) a b r q (f.Says.said c l left appends more) early = absurd (loud rest c b r q more early)
  quiet (RunLanes rest) a b r q (f.RunsLanes.no_memory h) early = h.idle.held
  quiet (RunLanes rest) a b r q (f.RunsLanes.refused h rose) early = h.idle.held
  quiet (RunLanes rest) a b r q (f.RunsLanes.ran c s more) early = Keeps-trans a.out.held c.out.held b.out.held s.idle.held (quiet rest c b r q.1 more early)

module _ (by_and_by : Bool) where
  by_status : (end : Result (Unit {0}) Fault) → (status_of end ≡ 0 → ⊥) → (status_of end ≡ 65 → ⊥) → (status_of end ≡ 70 → ⊥) → (status_of end ≡ 72 → ⊥)
      → (IsTrue by_and_by → status_of end ≡ 71 → ⊥) → IsEarly by_and_by end
  by_status (Ok x) ok capture memory write read = ok refl
  by_status (Err (faults.Refused (BadCapture fault))) ok capture memory write read = capture refl
  by_status (Err (faults.Refused (BadScript line kind))) ok capture memory write read = tt
  by_status (Err (faults.Refused (BadText line kind))) ok capture memory write read = tt
  by_status (Err (faults.Refused (Twice item label))) ok capture memory write read = tt
  by_status (Err (faults.Refused (Unknown item label))) ok capture memory write read = tt
  by_status (Err (faults.Refused (Backward item label))) ok capture memory write read = tt
  by_status (Err (faults.Refused (TooLong input))) ok capture memory write read = tt
  by_status (Err (faults.Refused CodeTooLong)) ok capture memory write read = tt
  by_status (Err (faults.Refused (TooLarge need limit))) ok capture memory write read = tt
  by_status (Err faults.OutOfMemory) ok capture memory write read = memory refl
  by_status (Err faults.Usage) ok capture memory write read = tt
  by_status (Err (faults.Read input)) ok capture memory write read = λ taken. read taken refl
  by_status (Err faults.Write) ok capture memory write read = write refl
  by_status (Err (faults.Open input)) ok capture memory write read = tt
  by_status (Err faults.Board) ok capture memory write read = tt

-- ---- statuses

-- the statuses of refusals lie between those of wrong words and of want of memory
refusal_between : (refusal : Refusal) → (64 < refusal_status refusal) × (refusal_status refusal < 70)
refusal_between (BadCapture fault) = (omega arith, omega arith)
refusal_between (BadScript line kind) = (omega arith, omega arith)
refusal_between (BadText line kind) = (omega arith, omega arith)
refusal_between (Twice item label) = (omega arith, omega arith)
refusal_between (Unknown item label) = (omega arith, omega arith)
refusal_between (Backward item label) = (omega arith, omega arith)
refusal_between (TooLong input) = (omega arith, omega arith)
refusal_between CodeTooLong = (omega arith, omega arith)
refusal_between (TooLarge need limit) = (omega arith, omega arith)

-- those of a file that can't be read
abbrev pub IsFileStatus : ℕ → Type 0
IsFileStatus status = (status ≡ 68) ⊎ ((status ≡ 71) ⊎ (status ≡ 73))

pub file_status : (which : Input) (long : Type 0) (fault : Fault) → FileFails which long fault → (status_of (Err fault) ≡ 70) ⊎ IsFileStatus (status_of (Err fault))
file_status which long faults.OutOfMemory h = inl refl
file_status which long (faults.Read input) h = inr (inr (inl refl))
file_status which long (faults.Open input) h = inr (inr (inr refl))
file_status which long (faults.Refused (TooLong input)) h = inr (inl refl)
file_status which long (faults.Refused (BadCapture fault)) h = absurd h
file_status which long (faults.Refused (BadScript line kind)) h = absurd h
file_status which long (faults.Refused (BadText line kind)) h = absurd h
file_status which long (faults.Refused (Twice item label)) h = absurd h
file_status which long (faults.Refused (Unknown item label)) h = absurd h
file_status which long (faults.Refused (Backward item label)) h = absurd h
file_status which long (faults.Refused CodeTooLong) h = absurd h
file_status which long (faults.Refused (TooLarge need limit)) h = absurd h
file_status which long faults.Usage h = absurd h
file_status which long faults.Write h = absurd h
file_status which long faults.Board h = absurd h

module _ (a b : Stage) where
  read_owes : (end : Result (Unit {0}) Fault) → Owes a b end → status_of end ≡ 71 → Rose a.shelf.faults b.shelf.faults
  read_owes (Err (faults.Read input)) h is = h
  read_owes (Ok x) h is = absurd (omega arith)
  read_owes (Err (faults.Refused refusal)) h is = absurd (omega (arith, (refusal_between refusal).1))
  read_owes (Err faults.OutOfMemory) h is = absurd (omega arith)
  read_owes (Err faults.Usage) h is = absurd (omega arith)
  read_owes (Err faults.Write) h is = absurd (omega arith)
  read_owes (Err (faults.Open input)) h is = absurd (omega arith)
  read_owes (Err faults.Board) h is = absurd (omega arith)

  write_owes : (end : Result (Unit {0}) Fault) → Owes a b end → status_of end ≡ 72 → Rose a.out.faults b.out.faults
  write_owes (Err faults.Write) h is = h
  write_owes (Ok x) h is = absurd (omega arith)
  write_owes (Err (faults.Refused refusal)) h is = absurd (omega (arith, (refusal_between refusal).1))
  write_owes (Err faults.OutOfMemory) h is = absurd (omega arith)
  write_owes (Err faults.Usage) h is = absurd (omega arith)
  write_owes (Err (faults.Read input)) h is = absurd (omega arith)
  write_owes (Err (faults.Open input)) h is = absurd (omega arith)
  write_owes (Err faults.Board) h is = absurd (omega arith)

  open_owes : (end : Result (Unit {0}) Fault) → Owes a b end → status_of end ≡ 73 → Rose a.shelf.misses b.shelf.misses
  open_owes (Err (faults.Open input)) h is = h
  open_owes (Ok x) h is = absurd (omega arith)
  open_owes (Err (faults.Refused refusal)) h is = absurd (omega (arith, (refusal_between refusal).1))
  open_owes (Err faults.OutOfMemory) h is = absurd (omega arith)
  open_owes (Err faults.Usage) h is = absurd (omega arith)
  open_owes (Err (faults.Read input)) h is = absurd (omega arith)
  open_owes (Err faults.Write) h is = absurd (omega arith)
  open_owes (Err faults.Board) h is = absurd (omega arith)

  board_owes : (end : Result (Unit {0}) Fault) → Owes a b end → status_of end ≡ 76 → Rose a.board b.board
  board_owes (Err faults.Board) h is = h
  board_owes (Ok x) h is = absurd (omega arith)
  board_owes (Err (faults.Refused refusal)) h is = absurd (omega (arith, (refusal_between refusal).1))
  board_owes (Err faults.OutOfMemory) h is = absurd (omega arith)
  board_owes (Err faults.Usage) h is = absurd (omega arith)
  board_owes (Err (faults.Read input)) h is = absurd (omega arith)
  board_owes (Err faults.Write) h is = absurd (omega arith)
  board_owes (Err (faults.Open input)) h is = absurd (omega arith)

  usage_owes : (end : Result (Unit {0}) Fault) → Owes a b end → status_of end ≡ 64 → ⊥
  usage_owes (Err faults.Usage) h is = h
  usage_owes (Ok x) h is = omega arith
  usage_owes (Err (faults.Refused refusal)) h is = omega (arith, (refusal_between refusal).0)
  usage_owes (Err faults.OutOfMemory) h is = omega arith
  usage_owes (Err (faults.Read input)) h is = omega arith
  usage_owes (Err faults.Write) h is = omega arith
  usage_owes (Err (faults.Open input)) h is = omega arith
  usage_owes (Err faults.Board) h is = omega arith

pub ended_well : (end : Result (Unit {0}) Fault) → status_of end ≡ 0 → end ≡ Ok tt
ended_well (Ok x) is = refl
ended_well (Err (faults.Refused refusal)) is = absurd (omega (arith, (refusal_between refusal).0))
ended_well (Err faults.OutOfMemory) is = absurd (omega arith)
ended_well (Err faults.Usage) is = absurd (omega arith)
ended_well (Err (faults.Read input)) is = absurd (omega arith)
ended_well (Err faults.Write) is = absurd (omega arith)
ended_well (Err (faults.Open input)) is = absurd (omega arith)
ended_well (Err faults.Board) is = absurd (omega arith)

pub ended_unwritten : (end : Result (Unit {0}) Fault) → status_of end ≡ 72 → end ≡ Err faults.Write
ended_unwritten (Err faults.Write) is = refl
ended_unwritten (Ok x) is = absurd (omega arith)
ended_unwritten (Err (faults.Refused refusal)) is = absurd (omega (arith, (refusal_between refusal).1))
ended_unwritten (Err faults.OutOfMemory) is = absurd (omega arith)
ended_unwritten (Err faults.Usage) is = absurd (omega arith)
ended_unwritten (Err (faults.Read input)) is = absurd (omega arith)
ended_unwritten (Err (faults.Open input)) is = absurd (omega arith)
ended_unwritten (Err faults.Board) is = absurd (omega arith)

at_end : (p : Plan (Unit {0})) (a b : Stage) (end : Result (Unit {0}) Fault) → Follows p a b end → status_of end ≡ 0 → ReadsWhole false p → IsAtEnd b.shelf.left
at_end p a b end h is whole = read_whole p false a b tt whole (λ t. absurd (cc)) (subst (λ (e : Result (Unit {0}) Fault). Follows p a b e) (ended_well end is) h)

-- ---- words

-- words that mean nothing end as wrong words, or by want of memory
wrong : (a b : Stage) (end : Result (Unit {0}) Fault) → Does nothing a b end → (status_of end ≡ 64) ⊎ (status_of end ≡ 70)
wrong a b end (f.Ends.no_memory h) = inr (ap status_of h.is)
wrong a b end (f.Ends.ended is s) = inl (ap status_of is)

neither : {P : Type 0} (n s : ℕ) → (s ≡ 64) ⊎ (s ≡ 70) → s ≡ n → (n ≡ 64 → ⊥) → (n ≡ 70 → ⊥) → P
neither n s (inl h) is a b = absurd (a (sym is ∙ h))
neither n s (inr h) is a b = absurd (b (sym is ∙ h))

module _ (a b : Stage) (end : Result (Unit {0}) Fault) where
  pub does_later : (m : CommandMeaning) → Does m a b end → Later a b
  does_later nothing (f.Ends.no_memory h) = h.idle.later
  does_later nothing (f.Ends.ended is s) = s.idle.later
  does_later (command p) h = later p a b end h

  pub does_stands : (m : CommandMeaning) → Does m a b end → (lines : List (List ℕ)) × MayEndBy m a.shelf.file lines end × Leaves a.out.held b.out.held lines end
  does_stands nothing (f.Ends.no_memory h) = ([], (refl, inr h.is), leaves_nothing a.out.held b.out.held end h.idle.held)
  does_stands nothing (f.Ends.ended is s) = ([], (refl, inl is), leaves_nothing a.out.held b.out.held end s.idle.held)
  does_stands (command p) h = stands p a b end h

  does_own : (m : CommandMeaning) → Does m a b end → Calm a b → (end ≡ Err faults.OutOfMemory) ⊎ IsOwn end
  does_own nothing (f.Ends.no_memory h) q = inl h.is
  does_own nothing (f.Ends.ended is s) q = inr (subst (λ (e : Result (Unit {0}) Fault). IsOwn e) (sym is) tt)
  does_own (command p) h q = own a b end (owes p a b end h) q

  -- where no count rose, the call came to an end of its own and wrote all lines, but for want of memory
  pub does_complete : (m : CommandMeaning) → Does m a b end → Calm a b
      → (status_of end ≡ 70) ⊎ (IsOwn end × (lines : List (List ℕ)) × MayEndBy m a.shelf.file lines end × AppendsAll a.out.held b.out.held lines)
  does_complete m h q =
      let s = does_stands m h in
      elim (does_own m h q) [
        | inl lacks ↦ inl (ap status_of lacks)
        | inr o ↦ inr (o, s.0, s.1, leaves_all a.out.held b.out.held s.0 end (own_written end o) s.2)
      ]

  pub does_read : (m : CommandMeaning) → Does m a b end → status_of end ≡ 71 → Rose a.shelf.faults b.shelf.faults
  does_read nothing h is = neither 71 (status_of end) (wrong a b end h) is (λ e. omega arith) (λ e. omega arith)
  does_read (command p) h is = read_owes a b end (owes p a b end h) is

  pub does_write : (m : CommandMeaning) → Does m a b end → status_of end ≡ 72 → Rose a.out.faults b.out.faults
  does_write nothing h is = neither 72 (status_of end) (wrong a b end h) is (λ e. omega arith) (λ e. omega arith)
  does_write (command p) h is = write_owes a b end (owes p a b end h) is

  pub does_open : (m : CommandMeaning) → Does m a b end → status_of end ≡ 73 → Rose a.shelf.misses b.shelf.misses
  does_open nothing h is = neither 73 (status_of end) (wrong a b end h) is (λ e. omega arith) (λ e. omega arith)
  does_open (command p) h is = open_owes a b end (owes p a b end h) is

  pub does_board : (m : CommandMeaning) → Does m a b end → status_of end ≡ 76 → Rose a.board b.board
  does_board nothing h is = neither 76 (status_of end) (wrong a b end h) is (λ e. omega arith) (λ e. omega arith)
  does_board (command p) h is = board_owes a b end (owes p a b end h) is

  pub does_usage : (m : CommandMeaning) → Does m a b end → status_of end ≡ 64 → IsAccepted m → ⊥
  does_usage nothing h is accepted = accepted
  does_usage (command p) h is accepted = usage_owes a b end (owes p a b end h) is

  pub does_refuse : (m : CommandMeaning) → Does m a b end → (IsAccepted m → ⊥) → (status_of end ≡ 64) ⊎ (status_of end ≡ 70)
  does_refuse nothing h not = wrong a b end h
  does_refuse (command p) h not = absurd (not tt)

  pub does_whole : (m : CommandMeaning) → Does m a b end → status_of end ≡ 0 → ReadsWholeFor m → IsAtEnd b.shelf.left
  does_whole nothing h is whole = absurd whole
  does_whole (command p) h is whole = at_end p a b end h is whole

  pub does_quiet : (by_and_by : Bool) (m : CommandMeaning) → Does m a b end → IsQuietFor by_and_by m → (status_of end ≡ 0 → ⊥) → (status_of end ≡ 65 → ⊥)
      → (status_of end ≡ 70 → ⊥) → (status_of end ≡ 72 → ⊥) → (IsTrue by_and_by → status_of end ≡ 71 → ⊥) → Keeps a.out.held b.out.held
  does_quiet by_and_by nothing (f.Ends.no_memory h) q ok capture memory write read = h.idle.held
  does_quiet by_and_by nothing (f.Ends.ended is s) q ok capture memory write read = s.idle.held
  does_quiet by_and_by (command p) h q ok capture memory write read = quiet by_and_by p a b end q h (by_status by_and_by end ok capture memory write read)
