-- How a call that follows a plan is put together from its steps.
use Rattle.std.proofs.Common.{◌≡◌, ◌<◌, ℕ, List, length, Option, Result, Ok, Err, ap, subst, ◌∙◌}
use Rattle.std.specs.List.{concat}
use Rattle.std.specs.Result.{IsErrAnd}
use Rattle.std.proofs.lemmas.Result.{err_from_is_err_and}
use Rattle.command_plan.specs.Files.{file_limit}
use Rattle.command_plan.specs.declared.fault.Input.{Input}
use Rattle.command_plan.specs.declared.fault.Refusal.{Refusal}
use Rattle.command_plan.specs.declared.fault.Refusal.TheVariants.{TooLong}
use Rattle.command_plan.specs.declared.fault.Fault.{Fault}
use Rattle.command_plan.specs.declared.fault.Fault.TheVariants as faults
use Rattle.command_plan.specs.Plan.{Plan, Done, Refuse, Ask, OpenCapture, TakeNext, Pick, Say, RunLanes, MayHold, MayTell, ◌>>=◌, picks}
use Rattle.pcap_files.specs.Stream.{Told, told}
use Rattle.command_plan.specs.Amounts.{Amount, IsTakenOf, IsBehindHead}
use Rattle.command_plan.specs.Follows.{Stage, Later, Idle, Rests, EndsHere, Asks, Picks, Says, Ends, Follows}
use Rattle.command_plan.specs.Follows as f
use Rattle.command_plan.proofs.Stages.{later_trans, idle_refl, idle_trans, rests_refl, rests_trans, rose_before, told_before, Appends-before, part_before, first_before, none_first, ends_before, ends_as, no_fault, same_fault}

-- what a file may hold was told before too
held_before : (input : Input) (path bytes : List ℕ) (a c : Stage) → Later a c → MayHold input (c.shelf.file path) bytes → MayHold input (a.shelf.file path) bytes
held_before input path bytes a c later h = record { fits = h.fits; are = h.are; same = told_before a c later path (λ all. bytes ≡ all) h.same }

-- and what a capture may tell, and what stands behind its header
tells_before : (path : List ℕ) (found : Told) (a c : Stage) → Later a c → MayTell (c.shelf.file path) found → MayTell (a.shelf.file path) found
tells_before path found a c later h = record { are = h.are; same = told_before a c later path (λ all. found ≡ told all) h.same }

head_before : (path : List ℕ) (left : Option (List ℕ)) (a c : Stage) → Later a c → IsBehindHead (c.shelf.file path) left → IsBehindHead (a.shelf.file path) left
head_before path left a c later h = subst (λ (f : List ℕ → Option (List ℕ)). IsBehindHead (f path) left) later.files h

-- as much was taken of what was left before
taken_before : (amount : Amount) (now : Option (List ℕ)) (a c : Stage) → c.shelf.left ≡ a.shelf.left → IsTakenOf amount c.shelf.left now → IsTakenOf amount a.shelf.left now
taken_before amount now a c left h = subst (λ (l : Option (List ℕ)). IsTakenOf amount l now) left h

module _ {A : Type 0} where
  -- nothing was done before
  pub before : (p : Plan A) (a c b : Stage) (r : Result A Fault) → Rests a c → Follows p c b r → Follows p a b r
  unfolding Follows
  before (Done x) a c b r s (f.Ends.no_memory h) = f.Ends.no_memory (ends_before (Err faults.OutOfMemory) a c b r s.idle h)
  before (Done x) a c b r s (f.Ends.ended is t) = f.Ends.ended is (rests_trans a c b s t)
  before (Refuse fault) a c b r s (f.Ends.no_memory h) = f.Ends.no_memory (ends_before (Err faults.OutOfMemory) a c b r s.idle h)
  before (Refuse fault) a c b r s (f.Ends.ended is t) = f.Ends.ended is (rests_trans a c b s t)
  before (Ask input path rest) a c b r s (f.Asks.no_memory h) = f.Asks.no_memory (ends_before (Err faults.OutOfMemory) a c b r s.idle h)
  before (Ask input path rest) a c b r s (f.Asks.unopened h rose) =
      f.Asks.unopened (ends_before (Err (faults.Open input)) a c b r s.idle h) (rose_before a.shelf.misses c.shelf.misses b.shelf.misses s.idle.later.misses rose)
  before (Ask input path rest) a c b r s (f.Asks.unread h rose) =
      f.Asks.unread (ends_before (Err (faults.Read input)) a c b r s.idle h) (rose_before a.shelf.faults c.shelf.faults b.shelf.faults s.idle.later.faults rose)
  before (Ask input path rest) a c b r s (f.Asks.too_long h told) =
      f.Asks.too_long (ends_before (Err (faults.Refused (TooLong input))) a c b r s.idle h) (told_before a c s.idle.later path (λ told. file_limit input.kind < length told) told)
  before (Ask input path rest) a c b r s (f.Asks.asked bytes d held idle whole more) =
      f.Asks.asked bytes d (held_before input path bytes a c s.idle.later held) (idle_trans a c d s.idle idle) whole more
  before (OpenCapture input path rest) a c b r s (f.Opens.no_memory h) = f.Opens.no_memory (ends_before (Err faults.OutOfMemory) a c b r s.idle h)
  before (OpenCapture input path rest) a c b r s (f.Opens.unopened h rose) =
      f.Opens.unopened (ends_before (Err (faults.Open input)) a c b r s.idle h) (rose_before a.shelf.misses c.shelf.misses b.shelf.misses s.idle.later.misses rose)
  before (OpenCapture input path rest) a c b r s (f.Opens.unread h rose) =
      f.Opens.unread (ends_before (Err (faults.Read input)) a c b r s.idle h) (rose_before a.shelf.faults c.shelf.faults b.shelf.faults s.idle.later.faults rose)
  before (OpenCapture input path rest) a c b r s (f.Opens.opened found d tells idle behind more) =
      f.Opens.opened found d (tells_before path found a c s.idle.later tells) (idle_trans a c d s.idle idle) (head_before path d.shelf.left a c s.idle.later behind) more
  before (TakeNext input amount rest) a c b r s (f.Takes.no_memory h) = f.Takes.no_memory (ends_before (Err faults.OutOfMemory) a c b r s.idle h)
  before (TakeNext input amount rest) a c b r s (f.Takes.unread h rose) =
      f.Takes.unread (ends_before (Err (faults.Read input)) a c b r s.idle h) (rose_before a.shelf.faults c.shelf.faults b.shelf.faults s.idle.later.faults rose)
  before (TakeNext input amount rest) a c b r s (f.Takes.taken d idle amounts more) =
      f.Takes.taken d (idle_trans a c d s.idle idle) (taken_before amount d.shelf.left a c s.left amounts) more
  before (Pick P rest) a c b r s (f.Picks.no_memory h) = f.Picks.no_memory (ends_before (Err faults.OutOfMemory) a c b r s.idle h)
  before (Pick P rest) a c b r s (f.Picks.picked x has more) = f.Picks.picked x has (before (rest x) a c b r s more)
  before (Say lines rest) a c b r s (f.Says.no_memory is later first) =
      f.Says.no_memory is (later_trans a c b s.idle.later later) (first_before a.out.held c.out.held b.out.held lines s.idle.held first)
  before (Say lines rest) a c b r s (f.Says.unwritten is later left rose part) =
      f.Says.unwritten is (later_trans a c b s.idle.later later) (left ∙ s.left) (rose_before a.out.faults c.out.faults b.out.faults s.idle.later.out_faults rose)
      (part_before a.out.held c.out.held b.out.held (concat lines) s.idle.held part)
  before (Say lines rest) a c b r s (f.Says.said d later left appends more) =
      f.Says.said d (later_trans a c d s.idle.later later) (left ∙ s.left) (Appends-before a.out.held c.out.held d.out.held (concat lines) s.idle.held appends) more
  before (RunLanes rest) a c b r s (f.RunsLanes.no_memory h) = f.RunsLanes.no_memory (ends_before (Err faults.OutOfMemory) a c b r s.idle h)
  before (RunLanes rest) a c b r s (f.RunsLanes.refused h rose) =
      f.RunsLanes.refused (ends_before (Err faults.Board) a c b r s.idle h) (rose_before a.board c.board b.board s.idle.later.board rose)
  before (RunLanes rest) a c b r s (f.RunsLanes.ran d t more) = f.RunsLanes.ran d (rests_trans a c d s t) more

  -- want of memory, at any node
  pub lacks : (p : Plan A) (a b : Stage) (r : Result A Fault) → r ≡ Err faults.OutOfMemory → Idle a b → Follows p a b r
  unfolding Follows
  lacks (Done x) a b r is idle = f.Ends.no_memory (record { is = is; idle = idle })
  lacks (Refuse fault) a b r is idle = f.Ends.no_memory (record { is = is; idle = idle })
  lacks (Ask input path rest) a b r is idle = f.Asks.no_memory (record { is = is; idle = idle })
  lacks (OpenCapture input path rest) a b r is idle = f.Opens.no_memory (record { is = is; idle = idle })
  lacks (TakeNext input amount rest) a b r is idle = f.Takes.no_memory (record { is = is; idle = idle })
  lacks (Pick P rest) a b r is idle = f.Picks.no_memory (record { is = is; idle = idle })
  lacks (Say lines rest) a b r is idle = f.Says.no_memory is idle.later (none_first a.out.held b.out.held lines idle.held)
  lacks (RunLanes rest) a b r is idle = f.RunsLanes.no_memory (record { is = is; idle = idle })

  pub done : (x : A) (a : Stage) (r : Result A Fault) → r ≡ Ok x → Follows (Done x) a a r
  unfolding Follows
  done x a r is = f.Ends.ended is (rests_refl a)

  pub refused : (refusal : Refusal) (a : Stage) (r : Result A Fault) → r ≡ Err (faults.Refused refusal) → Follows {A = A} (Refuse refusal) a a r
  unfolding Follows
  refused refusal a r is = f.Ends.ended is (rests_refl a)

module _ {A B : Type 0} where
  -- the first plan came to its answer, and the call went on from there
  pub then_on : (p : Plan A) (next : A → Plan B) (x : A) (a c b : Stage) (r : Result B Fault) → Follows p a c (Ok x) → Follows (next x) c b r → Follows (p >>= next) a b r
  unfolding Follows ◌>>=◌
  then_on (Done y) next x a c b r (f.Ends.no_memory h) k = no_fault faults.OutOfMemory a c x h
  then_on (Done y) next x a c b r (f.Ends.ended is s) k =
      let e : x ≡ y = cc in
      before (next y) a c b r s (subst (λ (z : A). Follows (next z) c b r) e k)
  then_on (Refuse fault) next x a c b r (f.Ends.no_memory h) k = no_fault faults.OutOfMemory a c x h
  then_on (Refuse fault) next x a c b r (f.Ends.ended is s) k = absurd (cc)
  then_on (Ask input path rest) next x a c b r (f.Asks.no_memory h) k = no_fault faults.OutOfMemory a c x h
  then_on (Ask input path rest) next x a c b r (f.Asks.unopened h rose) k = no_fault (faults.Open input) a c x h
  then_on (Ask input path rest) next x a c b r (f.Asks.unread h rose) k = no_fault (faults.Read input) a c x h
  then_on (Ask input path rest) next x a c b r (f.Asks.too_long h told) k = no_fault (faults.Refused (TooLong input)) a c x h
  then_on (Ask input path rest) next x a c b r (f.Asks.asked bytes d held idle whole more) k = f.Asks.asked bytes d held idle whole (then_on (rest bytes) next x d c b r more k)
  then_on (OpenCapture input path rest) next x a c b r (f.Opens.no_memory h) k = no_fault faults.OutOfMemory a c x h
  then_on (OpenCapture input path rest) next x a c b r (f.Opens.unopened h rose) k = no_fault (faults.Open input) a c x h
  then_on (OpenCapture input path rest) next x a c b r (f.Opens.unread h rose) k = no_fault (faults.Read input) a c x h
  then_on (OpenCapture input path rest) next x a c b r (f.Opens.opened found d tells idle behind more) k =
      f.Opens.opened found d tells idle behind (then_on (rest found) next x d c b r more k)
  then_on (TakeNext input amount rest) next x a c b r (f.Takes.no_memory h) k = no_fault faults.OutOfMemory a c x h
  then_on (TakeNext input amount rest) next x a c b r (f.Takes.unread h rose) k = no_fault (faults.Read input) a c x h
  then_on (TakeNext input amount rest) next x a c b r (f.Takes.taken d idle amounts more) k = f.Takes.taken d idle amounts (then_on rest next x d c b r more k)
  then_on (Pick P rest) next x a c b r (f.Picks.no_memory h) k = no_fault faults.OutOfMemory a c x h
  then_on (Pick P rest) next x a c b r (f.Picks.picked y has more) k = f.Picks.picked y has (then_on (rest y) next x a c b r more k)
  then_on (Say lines rest) next x a c b r (f.Says.no_memory is later first) k = absurd (cc)
  then_on (Say lines rest) next x a c b r (f.Says.unwritten is later left rose part) k = absurd (cc)
  then_on (Say lines rest) next x a c b r (f.Says.said d later left appends more) k = f.Says.said d later left appends (then_on rest next x d c b r more k)
  then_on (RunLanes rest) next x a c b r (f.RunsLanes.no_memory h) k = no_fault faults.OutOfMemory a c x h
  then_on (RunLanes rest) next x a c b r (f.RunsLanes.refused h rose) k = no_fault faults.Board a c x h
  then_on (RunLanes rest) next x a c b r (f.RunsLanes.ran d s more) k = f.RunsLanes.ran d s (then_on rest next x d c b r more k)

  -- the first plan ended by a fault, and the call with it
  pub fails : (p : Plan A) (next : A → Plan B) (fault : Fault) (a b : Stage) (r : Result B Fault) → r ≡ Err fault → Follows p a b (Err fault) → Follows (p >>= next) a b r
  unfolding Follows ◌>>=◌
  fails (Done y) next fault a b r is (f.Ends.no_memory h) = lacks (next y) a b r (same_fault faults.OutOfMemory fault r is h.is) h.idle
  fails (Done y) next fault a b r is (f.Ends.ended e s) = absurd (cc)
  fails (Refuse end) next fault a b r is (f.Ends.no_memory h) = f.Ends.no_memory (ends_as faults.OutOfMemory fault a b r is h)
  fails (Refuse end) next fault a b r is (f.Ends.ended e s) = f.Ends.ended (same_fault (faults.Refused end) fault r is e) s
  fails (Ask input path rest) next fault a b r is (f.Asks.no_memory h) = f.Asks.no_memory (ends_as faults.OutOfMemory fault a b r is h)
  fails (Ask input path rest) next fault a b r is (f.Asks.unopened h rose) = f.Asks.unopened (ends_as (faults.Open input) fault a b r is h) rose
  fails (Ask input path rest) next fault a b r is (f.Asks.unread h rose) = f.Asks.unread (ends_as (faults.Read input) fault a b r is h) rose
  fails (Ask input path rest) next fault a b r is (f.Asks.too_long h told) = f.Asks.too_long (ends_as (faults.Refused (TooLong input)) fault a b r is h) told
  fails (Ask input path rest) next fault a b r is (f.Asks.asked bytes d held idle whole more) = f.Asks.asked bytes d held idle whole (fails (rest bytes) next fault d b r is more)
  fails (OpenCapture input path rest) next fault a b r is (f.Opens.no_memory h) = f.Opens.no_memory (ends_as faults.OutOfMemory fault a b r is h)
  fails (OpenCapture input path rest) next fault a b r is (f.Opens.unopened h rose) = f.Opens.unopened (ends_as (faults.Open input) fault a b r is h) rose
  fails (OpenCapture input path rest) next fault a b r is (f.Opens.unread h rose) = f.Opens.unread (ends_as (faults.Read input) fault a b r is h) rose
  fails (OpenCapture input path rest) next fault a b r is (f.Opens.opened found d tells idle behind more) =
      f.Opens.opened found d tells idle behind (fails (rest found) next fault d b r is more)
  fails (TakeNext input amount rest) next fault a b r is (f.Takes.no_memory h) = f.Takes.no_memory (ends_as faults.OutOfMemory fault a b r is h)
  fails (TakeNext input amount rest) next fault a b r is (f.Takes.unread h rose) = f.Takes.unread (ends_as (faults.Read input) fault a b r is h) rose
  fails (TakeNext input amount rest) next fault a b r is (f.Takes.taken d idle amounts more) = f.Takes.taken d idle amounts (fails rest next fault d b r is more)
  fails (Pick P rest) next fault a b r is (f.Picks.no_memory h) = f.Picks.no_memory (ends_as faults.OutOfMemory fault a b r is h)
  fails (Pick P rest) next fault a b r is (f.Picks.picked x has more) = f.Picks.picked x has (fails (rest x) next fault a b r is more)
  fails (Say lines rest) next fault a b r is (f.Says.no_memory e later first) = f.Says.no_memory (same_fault faults.OutOfMemory fault r is e) later first
  fails (Say lines rest) next fault a b r is (f.Says.unwritten e later left rose part) = f.Says.unwritten (same_fault faults.Write fault r is e) later left rose part
  fails (Say lines rest) next fault a b r is (f.Says.said d later left appends more) = f.Says.said d later left appends (fails rest next fault d b r is more)
  fails (RunLanes rest) next fault a b r is (f.RunsLanes.no_memory h) = f.RunsLanes.no_memory (ends_as faults.OutOfMemory fault a b r is h)
  fails (RunLanes rest) next fault a b r is (f.RunsLanes.refused h rose) = f.RunsLanes.refused (ends_as faults.Board fault a b r is h) rose
  fails (RunLanes rest) next fault a b r is (f.RunsLanes.ran d s more) = f.RunsLanes.ran d s (fails rest next fault d b r is more)

module _ {B : Type 0} where
  -- something with the property was chosen
  pub then_pick : {X : Type 0} (P : X → Type 0) (next : X → Plan B) (x : X) (a b : Stage) (r : Result B Fault) → P x → Follows (next x) a b r → Follows (picks P >>= next) a b r
  unfolding Follows ◌>>=◌
  then_pick P next x a b r has more = f.Picks.picked x has more

module _ {A : Type 0} where
  pub picked : (P : A → Type 0) (x : A) (a : Stage) (r : Result A Fault) → r ≡ Ok x → P x → Follows (picks P) a a r
  unfolding Follows
  picked P x a r is has = f.Picks.picked x has (done x a r is)

  pub lacks_by : (p : Plan A) (a : Stage) (r : Result A Fault) → IsErrAnd r (λ e. e ≡ faults.OutOfMemory) → Follows p a a r
  lacks_by p a r is = let q = err_from_is_err_and r is in lacks p a a r (q.1 ∙ ap (λ (x : Fault). Err x) q.2) (idle_refl a)

  -- a plan that is known to be this one
  pub follows_as : {X : Type 0} (plan : X → Plan A) (x y : X) (a b : Stage) (r : Result A Fault) → x ≡ y → Follows (plan x) a b r → Follows (plan y) a b r
  follows_as {X = X} plan x y a b r is h = subst (λ (z : X). Follows (plan z) a b r) is h

module _ {A B : Type 0} where
  -- the first plan came to its answer, which is known to be this
  pub then_as : (p : Plan A) (next : A → Plan B) (o x : A) (a c b : Stage) (r : Result B Fault) → o ≡ x → Follows p a c (Ok o) → Follows (next x) c b r → Follows (p >>= next) a b r
  then_as p next o x a c b r is first more = then_on p next x a c b r (subst (λ (z : A). Follows p a c (Ok z)) is first) more

pub err_is : {B : Type 0} (r : Result B Fault) (fault : Fault) → IsErrAnd r (λ e. e ≡ fault) → r ≡ Err fault
err_is r fault is = let q = err_from_is_err_and r is in q.1 ∙ ap (λ (x : Fault). Err x) q.2
