-- What a call did where there is no board, it does beside one that has refused so often before.
use Rattle.std.proofs.Common.{◌≡◌, ◌+◌, ℕ, Result, Err, subst, arith}
use Rattle.apf_base.specs.Causes.{Rose}
use Rattle.command_plan.specs.declared.fault.Fault.{Fault}
use Rattle.command_plan.specs.declared.fault.Fault.TheVariants as faults
use Rattle.command_plan.specs.declared.fault.Refusal.TheVariants.{TooLong}
use Rattle.command_plan.specs.Plan.{Plan, Done, Refuse, Ask, OpenCapture, TakeNext, Pick, Say, RunLanes}
use Rattle.command_plan.specs.Follows.{Stage, Shelving, Sinking, Later, Idle, Rests, EndsHere, Follows, Reads, Writes, stage, stage_beside}
use Rattle.command_plan.specs.Follows as f

module _ (n : ℕ) where
  -- the same, but that a board has refused so often more
  abbrev pub raised : Stage → Stage
  raised s = stage_beside s.shelf s.out (s.board + n)

  later_raised : (a b : Stage) → Later a b → Later (raised a) (raised b)
  later_raised a b l = record { files = l.files; faults = l.faults; misses = l.misses; out_faults = l.out_faults; board = omega (arith, l.board) }

  idle_raised : (a b : Stage) → Idle a b → Idle (raised a) (raised b)
  idle_raised a b i = record { later = later_raised a b i.later; held = i.held }

  rests_raised : (a b : Stage) → Rests a b → Rests (raised a) (raised b)
  rests_raised a b s = record { idle = idle_raised a b s.idle; left = s.left }

  rose_raised : (x y : ℕ) → Rose x y → Rose (x + n) (y + n)
  rose_raised x y rose = omega arith

  module _ {A : Type 0} where
    ends_raised : (end : Result A Fault) (a b : Stage) (r : Result A Fault) → EndsHere end a b r → EndsHere end (raised a) (raised b) r
    ends_raised end a b r h = record { is = h.is; idle = idle_raised a b h.idle }

    pub beside : (p : Plan A) (a b : Stage) (r : Result A Fault) → Follows p a b r → Follows p (raised a) (raised b) r
    unfolding Follows
    beside (Done x) a b r (f.Ends.no_memory h) = f.Ends.no_memory (ends_raised (Err faults.OutOfMemory) a b r h)
    beside (Done x) a b r (f.Ends.ended is s) = f.Ends.ended is (rests_raised a b s)
    beside (Refuse refusal) a b r (f.Ends.no_memory h) = f.Ends.no_memory (ends_raised (Err faults.OutOfMemory) a b r h)
    beside (Refuse refusal) a b r (f.Ends.ended is s) = f.Ends.ended is (rests_raised a b s)
    beside (Ask input path rest) a b r (f.Asks.no_memory h) = f.Asks.no_memory (ends_raised (Err faults.OutOfMemory) a b r h)
    beside (Ask input path rest) a b r (f.Asks.unopened h rose) = f.Asks.unopened (ends_raised (Err (faults.Open input)) a b r h) rose
    beside (Ask input path rest) a b r (f.Asks.unread h rose) = f.Asks.unread (ends_raised (Err (faults.Read input)) a b r h) rose
    beside (Ask input path rest) a b r (f.Asks.too_long h told) = f.Asks.too_long (ends_raised (Err (faults.Refused (TooLong input))) a b r h) told
    beside (Ask input path rest) a b r (f.Asks.asked bytes c held idle whole more) =
        f.Asks.asked bytes (raised c) held (idle_raised a c idle) whole (beside (rest bytes) c b r more)
    beside (OpenCapture input path rest) a b r (f.Opens.no_memory h) = f.Opens.no_memory (ends_raised (Err faults.OutOfMemory) a b r h)
    beside (OpenCapture input path rest) a b r (f.Opens.unopened h rose) = f.Opens.unopened (ends_raised (Err (faults.Open input)) a b r h) rose
    beside (OpenCapture input path rest) a b r (f.Opens.unread h rose) = f.Opens.unread (ends_raised (Err (faults.Read input)) a b r h) rose
    beside (OpenCapture input path rest) a b r (f.Opens.opened found c tells idle behind more) =
        f.Opens.opened found (raised c) tells (idle_raised a c idle) behind (beside (rest found) c b r more)
    beside (TakeNext input amount rest) a b r (f.Takes.no_memory h) = f.Takes.no_memory (ends_raised (Err faults.OutOfMemory) a b r h)
    beside (TakeNext input amount rest) a b r (f.Takes.unread h rose) = f.Takes.unread (ends_raised (Err (faults.Read input)) a b r h) rose
    beside (TakeNext input amount rest) a b r (f.Takes.taken c idle amounts more) = f.Takes.taken (raised c) (idle_raised a c idle) amounts (beside rest c b r more)
    beside (Pick P rest) a b r (f.Picks.no_memory h) = f.Picks.no_memory (ends_raised (Err faults.OutOfMemory) a b r h)
    beside (Pick P rest) a b r (f.Picks.picked x has more) = f.Picks.picked x has (beside (rest x) a b r more)
    beside (Say lines rest) a b r (f.Says.no_memory is later first) = f.Says.no_memory is (later_raised a b later) first
    beside (Say lines rest) a b r (f.Says.unwritten is later left rose part) = f.Says.unwritten is (later_raised a b later) left rose part
    beside (Say lines rest) a b r (f.Says.said c later left appends more) = f.Says.said (raised c) (later_raised a c later) left appends (beside rest c b r more)
    beside (RunLanes rest) a b r (f.RunsLanes.no_memory h) = f.RunsLanes.no_memory (ends_raised (Err faults.OutOfMemory) a b r h)
    beside (RunLanes rest) a b r (f.RunsLanes.refused h rose) = f.RunsLanes.refused (ends_raised (Err faults.Board) a b r h) (rose_raised a.board b.board rose)
    beside (RunLanes rest) a b r (f.RunsLanes.ran c s more) = f.RunsLanes.ran (raised c) (rests_raised a c s) (beside rest c b r more)

-- a step reads so, and writes so, beside every board
module _ {A : Type 0} (p : Plan A) where
  pub reads_beside : (a b : Shelving) (out : Sinking) (board : ℕ) (r : Result A Fault) → Reads p a b r → Follows p (stage_beside a out board) (stage_beside b out board) r
  reads_beside a b out board r h =
      let e : 0 + board ≡ board = omega arith in
      subst (λ (m : ℕ). Follows p (stage_beside a out m) (stage_beside b out m) r) e (beside board p (stage a out) (stage b out) r (h.at out))

  pub writes_beside : (a b : Sinking) (shelf : Shelving) (board : ℕ) (r : Result A Fault) → Writes p a b r → Follows p (stage_beside shelf a board) (stage_beside shelf b board) r
  writes_beside a b shelf board r h =
      let e : 0 + board ≡ board = omega arith in
      subst (λ (m : ℕ). Follows p (stage_beside shelf a m) (stage_beside shelf b m) r) e (beside board p (stage shelf a) (stage shelf b) r (h.at shelf))
