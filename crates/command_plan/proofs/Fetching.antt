-- What a plan may open first, and behind its first step.
use Rattle.std.proofs.Common.{◌≡◌, ◌≤◌, ℕ, List, length, sym, None, Ok, subst}
use Rattle.command_plan.specs.declared.fault.Input.{Input}
use Rattle.command_plan.specs.declared.fault.Fault.TheVariants as faults
use Rattle.command_plan.specs.declared.fault.Refusal.TheVariants.{TooLong}
use Rattle.command_plan.specs.Files.{file_limit}
use Rattle.command_plan.specs.Follows.{Shelving, Sinking, Stage, Follows, Reads, Thinks, Writes, shelving, sinking, stage}
use Rattle.command_plan.specs.Follows as f
use Rattle.pcap_files.specs.Stream.{Told}
use Rattle.command_plan.specs.Plan.{Plan, Done, Refuse, Ask, OpenCapture, TakeNext, Pick, Say, RunLanes, opens, ◌>>=◌, asks, picks, says, MayFetch, MayHold}
use Rattle.command_plan.proofs.Stages.{no_fault}

module _ {A : Type 0} (may : List ℕ → Type 0) where
  pub may_ask : (input : Input) (path : List ℕ) (next : List ℕ → Plan A) → MayFetch may (asks input path >>= next) → may path
  unfolding MayFetch ◌>>=◌
  may_ask input path next h = h.0

  pub behind_ask : (input : Input) (path : List ℕ) (next : List ℕ → Plan A) (bytes : List ℕ) → MayFetch may (asks input path >>= next) → MayFetch may (next bytes)
  unfolding MayFetch ◌>>=◌
  behind_ask input path next bytes h = h.1 bytes

  pub may_open : (input : Input) (path : List ℕ) (next : Told → Plan A) → MayFetch may (opens input path >>= next) → may path
  unfolding MayFetch ◌>>=◌
  may_open input path next h = h.0

  -- behind a plan that was followed to its answer
  pub behind : {B : Type 0} (p : Plan B) (next : B → Plan A) (x : B) (a b : Stage) → Follows p a b (Ok x) → MayFetch may (p >>= next) → MayFetch may (next x)
  unfolding Follows MayFetch ◌>>=◌
  behind {B = B} (Done y) next x a b (f.Ends.no_memory e) h = no_fault faults.OutOfMemory a b x e
  behind {B = B} (Done y) next x a b (f.Ends.ended is s) h =
      let e : y ≡ x = cc in
      subst (λ (z : B). MayFetch may (next z)) e h
  behind (Refuse refusal) next x a b (f.Ends.no_memory e) h = no_fault faults.OutOfMemory a b x e
  behind (Refuse refusal) next x a b (f.Ends.ended is s) h = absurd (cc)
  behind (Ask input path rest) next x a b (f.Asks.no_memory e) h = no_fault faults.OutOfMemory a b x e
  behind (Ask input path rest) next x a b (f.Asks.unopened e rose) h = no_fault (faults.Open input) a b x e
  behind (Ask input path rest) next x a b (f.Asks.unread e rose) h = no_fault (faults.Read input) a b x e
  behind (Ask input path rest) next x a b (f.Asks.too_long e told) h = no_fault (faults.Refused (TooLong input)) a b x e
  behind (Ask input path rest) next x a b (f.Asks.asked bytes c held idle whole more) h = behind (rest bytes) next x c b more (h.1 bytes)
  behind (OpenCapture input path rest) next x a b (f.Opens.no_memory e) h = no_fault faults.OutOfMemory a b x e
  behind (OpenCapture input path rest) next x a b (f.Opens.unopened e rose) h = no_fault (faults.Open input) a b x e
  behind (OpenCapture input path rest) next x a b (f.Opens.unread e rose) h = no_fault (faults.Read input) a b x e
  behind (OpenCapture input path rest) next x a b (f.Opens.opened found c tells idle head more) h = behind (rest found) next x c b more (h.1 found)
  behind (TakeNext input amount rest) next x a b (f.Takes.no_memory e) h = no_fault faults.OutOfMemory a b x e
  behind (TakeNext input amount rest) next x a b (f.Takes.unread e rose) h = no_fault (faults.Read input) a b x e
  behind (TakeNext input amount rest) next x a b (f.Takes.taken c idle amounts more) h = behind rest next x c b more h
  behind (Pick P rest) next x a b (f.Picks.no_memory e) h = no_fault faults.OutOfMemory a b x e
  behind (Pick P rest) next x a b (f.Picks.picked y has more) h = behind (rest y) next x a b more (h y has)
  behind (Say lines rest) next x a b (f.Says.no_memory is later first) h = absurd (cc)
  behind (Say lines rest) next x a b (f.Says.unwritten is later left rose part) h = absurd (cc)
  behind (Say lines rest) next x a b (f.Says.said c later left appends more) h = behind rest next x c b more h
  behind (RunLanes rest) next x a b (f.RunsLanes.no_memory e) h = no_fault faults.OutOfMemory a b x e
  behind (RunLanes rest) next x a b (f.RunsLanes.refused e rose) h = no_fault faults.Board a b x e
  behind (RunLanes rest) next x a b (f.RunsLanes.ran c s more) h = behind rest next x c b more h

  pub behind_read : {B : Type 0} (p : Plan B) (next : B → Plan A) (x : B) (a b : Shelving) → Reads p a b (Ok x) → MayFetch may (p >>= next) → MayFetch may (next x)
  behind_read p next x a b h m = behind p next x _ _ (h.at (sinking None 0)) m

  pub behind_write : {B : Type 0} (p : Plan B) (next : B → Plan A) (x : B) (a b : Sinking) → Writes p a b (Ok x) → MayFetch may (p >>= next) → MayFetch may (next x)
  behind_write p next x a b h m = behind p next x _ _ (h.at (shelving (λ name. None) None 0 0)) m

  pub behind_think : {B : Type 0} (p : Plan B) (next : B → Plan A) (x : B) → Thinks p (Ok x) → MayFetch may (p >>= next) → MayFetch may (next x)
  behind_think p next x h m = behind p next x _ _ (h.at (stage (shelving (λ name. None) None 0 0) (sinking None 0))) m

  pub behind_pick : {X : Type 0} (P : X → Type 0) (next : X → Plan A) (x : X) → P x → MayFetch may (picks P >>= next) → MayFetch may (next x)
  unfolding MayFetch ◌>>=◌
  behind_pick P next x has h = h x has

  pub behind_say : (lines : List (List ℕ)) (next : Unit {0} → Plan A) → MayFetch may (says lines >>= next) → MayFetch may (next tt)
  unfolding MayFetch ◌>>=◌
  behind_say lines next h = h

-- ---- what was read

read_held : (input : Input) (path bytes : List ℕ) (a b : Stage) → Follows (asks input path) a b (Ok bytes) → MayHold input (a.shelf.file path) bytes
unfolding Follows
read_held input path bytes a b (f.Asks.no_memory h) = no_fault faults.OutOfMemory a b bytes h
read_held input path bytes a b (f.Asks.unopened h rose) = no_fault (faults.Open input) a b bytes h
read_held input path bytes a b (f.Asks.unread h rose) = no_fault (faults.Read input) a b bytes h
read_held input path bytes a b (f.Asks.too_long h told) = no_fault (faults.Refused (TooLong input)) a b bytes h
read_held input path bytes a b (f.Asks.asked all c held idle whole (f.Ends.no_memory h)) = no_fault faults.OutOfMemory c b bytes h
read_held input path bytes a b (f.Asks.asked all c held idle whole (f.Ends.ended is s)) =
    let e : all ≡ bytes = cc in
    subst (λ (l : List ℕ). MayHold input (a.shelf.file path) l) e held

-- what a file held that was read
pub asked : (input : Input) (path bytes : List ℕ) (a b : Shelving) → Reads (asks input path) a b (Ok bytes) → MayHold input (a.file path) bytes
asked input path bytes a b h = read_held input path bytes _ _ (h.at (sinking None 0))

pub asked_fits : (input : Input) (path bytes slice : List ℕ) (a b : Shelving) → slice ≡ bytes → Reads (asks input path) a b (Ok bytes) → length slice ≤ file_limit input.kind
asked_fits input path bytes slice a b is h = subst (λ (l : List ℕ). length l ≤ file_limit input.kind) (sym is) (asked input path bytes a b h).fits
