-- What a call leaves that follows a plan.
use Rattle.std.specs.Prelude.{◌≡◌, ℕ, ◌<◌, ◌≤◌, List, length, Option, IfSome, Result, Ok, Err}
use Rattle.std.specs.List.{concat}
use Rattle.std.specs.Io.KnownBytes.{Keeps, IsAtEnd}
use Rattle.apf_base.specs.Causes.{Rose}
use Rattle.apf_base.specs.Streams.{AppendsPart, AppendsAll}
use Rattle.pcap_files.specs.Stream.{Told}
use Rattle.command_plan.specs.Amounts.{Amount, IsTakenOf, IsBehindHead}
use Rattle.command_plan.specs.Files.{file_limit}
use Rattle.command_plan.specs.Lines.{AppendsFirst}
use Rattle.command_plan.specs.Plan.{Plan, Done, Refuse, Ask, OpenCapture, TakeNext, Pick, Say, RunLanes, MayHold, MayTell}
use Rattle.command_plan.specs.declared.fault.Input.{Input}
use Rattle.command_plan.specs.declared.fault.Refusal.TheVariants.{TooLong}
use Rattle.command_plan.specs.declared.fault.Fault.{Fault}
use Rattle.command_plan.specs.declared.fault.Fault.TheVariants as faults

-- ---- what is seen at one moment

-- of a shelf
pub record Shelving : Type 0 where
  pub file : List ℕ → Option (List ℕ)
  pub left : Option (List ℕ)
  pub faults : ℕ
  pub misses : ℕ

-- of a sink
pub record Sinking : Type 0 where
  pub held : Option (List ℕ)
  pub faults : ℕ

-- of both, and how often a board refused so far: 0 where there is none
pub record Stage : Type 0 where
  pub shelf : Shelving
  pub out : Sinking
  pub board : ℕ

abbrev pub shelving : (List ℕ → Option (List ℕ)) → Option (List ℕ) → ℕ → ℕ → Shelving
shelving file left faults misses = record { file = file; left = left; faults = faults; misses = misses }

abbrev pub sinking : Option (List ℕ) → ℕ → Sinking
sinking held faults = record { held = held; faults = faults }

-- in a call with a board
abbrev pub stage_beside : Shelving → Sinking → ℕ → Stage
stage_beside shelf out board = record { shelf = shelf; out = out; board = board }

-- in a call without one
abbrev pub stage : Shelving → Sinking → Stage
stage shelf out = stage_beside shelf out 0

-- ---- from one moment to another

-- the files are the same, and no count fell
pub record Later (a b : Stage) : Type 0 where
  pub files : b.shelf.file ≡ a.shelf.file
  pub faults : a.shelf.faults ≤ b.shelf.faults
  pub misses : a.shelf.misses ≤ b.shelf.misses
  pub out_faults : a.out.faults ≤ b.out.faults
  pub board : a.board ≤ b.board

-- and nothing was written
pub record Idle (a b : Stage) : Type 0 where
  pub later : Later a b
  pub held : Keeps a.out.held b.out.held

-- and nothing was read
pub record Rests (a b : Stage) : Type 0 where
  pub idle : Idle a b
  pub left : b.shelf.left ≡ a.shelf.left

-- ---- over one node of a plan: `Rest` is what the call then owes

module _ {A : Type 0} where
  -- the call ended here, with nothing more written
  pub record EndsHere (end : Result A Fault) (a b : Stage) (result : Result A Fault) : Type 0 where
    pub is : result ≡ end
    pub idle : Idle a b

  -- it was to end so
  pub data Ends (end : Result A Fault) (a b : Stage) (result : Result A Fault) : Type 0 where
    no_memory : EndsHere (Err faults.OutOfMemory) a b result → Ends end a b result
    ended : result ≡ end → Rests a b → Ends end a b result

  -- it was to read a file whole
  pub data Asks (input : Input) (path : List ℕ) (Rest : List ℕ → Stage → Type 0) (a b : Stage) (result : Result A Fault) : Type 0 where
    no_memory : EndsHere (Err faults.OutOfMemory) a b result → Asks input path Rest a b result
    unopened : EndsHere (Err (faults.Open input)) a b result → Rose a.shelf.misses b.shelf.misses → Asks input path Rest a b result
    unread : EndsHere (Err (faults.Read input)) a b result → Rose a.shelf.faults b.shelf.faults → Asks input path Rest a b result
    too_long : EndsHere (Err (faults.Refused (TooLong input))) a b result → IfSome (a.shelf.file path) (λ told. file_limit input.kind < length told)
        → Asks input path Rest a b result
    asked : (bytes : List ℕ) (c : Stage) → MayHold input (a.shelf.file path) bytes → Idle a c → IsAtEnd c.shelf.left → Rest bytes c
        → Asks input path Rest a b result

  -- it was to open a capture
  pub data Opens (input : Input) (path : List ℕ) (Rest : Told → Stage → Type 0) (a b : Stage) (result : Result A Fault) : Type 0 where
    no_memory : EndsHere (Err faults.OutOfMemory) a b result → Opens input path Rest a b result
    unopened : EndsHere (Err (faults.Open input)) a b result → Rose a.shelf.misses b.shelf.misses → Opens input path Rest a b result
    unread : EndsHere (Err (faults.Read input)) a b result → Rose a.shelf.faults b.shelf.faults → Opens input path Rest a b result
    opened : (found : Told) (c : Stage) → MayTell (a.shelf.file path) found → Idle a c → IsBehindHead (a.shelf.file path) c.shelf.left → Rest found c
        → Opens input path Rest a b result

  -- it was to take some of the capture that is open
  pub data Takes (input : Input) (amount : Amount) (Rest : Stage → Type 0) (a b : Stage) (result : Result A Fault) : Type 0 where
    no_memory : EndsHere (Err faults.OutOfMemory) a b result → Takes input amount Rest a b result
    unread : EndsHere (Err (faults.Read input)) a b result → Rose a.shelf.faults b.shelf.faults → Takes input amount Rest a b result
    taken : (c : Stage) → Idle a c → IsTakenOf amount a.shelf.left c.shelf.left → Rest c → Takes input amount Rest a b result

  -- it was to choose something
  pub data Picks {X : Type 0} (P : X → Type 0) (Rest : X → Type 0) (a b : Stage) (result : Result A Fault) : Type 0 where
    no_memory : EndsHere (Err faults.OutOfMemory) a b result → Picks P Rest a b result
    picked : (x : X) → P x → Rest x → Picks P Rest a b result

  -- it was to write lines: where memory is wanting the first of them stand, and where a write fails the first bytes of
  -- their text; nothing is read meanwhile
  pub data Says (lines : List (List ℕ)) (Rest : Stage → Type 0) (a b : Stage) (result : Result A Fault) : Type 0 where
    no_memory : result ≡ Err faults.OutOfMemory → Later a b → AppendsFirst a.out.held b.out.held lines → Says lines Rest a b result
    unwritten : result ≡ Err faults.Write → Later a b → b.shelf.left ≡ a.shelf.left → Rose a.out.faults b.out.faults
        → AppendsPart a.out.held b.out.held (concat lines) → Says lines Rest a b result
    said : (c : Stage) → Later a c → c.shelf.left ≡ a.shelf.left → AppendsAll a.out.held c.out.held lines → Rest c → Says lines Rest a b result

  -- it was to run lanes on a board; nothing is written meanwhile
  pub data RunsLanes (Rest : Stage → Type 0) (a b : Stage) (result : Result A Fault) : Type 0 where
    no_memory : EndsHere (Err faults.OutOfMemory) a b result → RunsLanes Rest a b result
    refused : EndsHere (Err faults.Board) a b result → Rose a.board b.board → RunsLanes Rest a b result
    ran : (c : Stage) → Rests a c → Rest c → RunsLanes Rest a b result

-- ---- over a plan

-- A call went from one stage to another by this plan, with this result.
unfoldable pub Follows : {A : Type 0} → Plan A → Stage → Stage → Result A Fault → Type 0
Follows (Done x) a b result = Ends (Ok x) a b result
Follows (Refuse refusal) a b result = Ends (Err (faults.Refused refusal)) a b result
Follows (Ask input path rest) a b result = Asks input path (λ bytes c. Follows (rest bytes) c b result) a b result
Follows (OpenCapture input path rest) a b result = Opens input path (λ found c. Follows (rest found) c b result) a b result
Follows (TakeNext input amount rest) a b result = Takes input amount (λ c. Follows rest c b result) a b result
Follows (Pick P rest) a b result = Picks P (λ x. Follows (rest x) a b result) a b result
Follows (Say lines rest) a b result = Says lines (λ c. Follows rest c b result) a b result
Follows (RunLanes rest) a b result = RunsLanes (λ c. Follows rest c b result) a b result

-- A step that reads alone, whatever the sink is; one that writes alone, whatever the shelf is; and one that does neither.
-- The first two are said where there is no board, and so hold beside each.
pub record Reads {A : Type 0} (plan : Plan A) (a b : Shelving) (result : Result A Fault) : Type 0 where
  pub at : (out : Sinking) → Follows plan (stage a out) (stage b out) result

pub record Writes {A : Type 0} (plan : Plan A) (a b : Sinking) (result : Result A Fault) : Type 0 where
  pub at : (shelf : Shelving) → Follows plan (stage shelf a) (stage shelf b) result

pub record Thinks {A : Type 0} (plan : Plan A) (result : Result A Fault) : Type 0 where
  pub at : (s : Stage) → Follows plan s s result

-- an answer that is seen through a view
abbrev pub answer : {A B : Type 0} → (A → B) → Result A Fault → Result B Fault
answer view (Ok x) = Ok (view x)
answer view (Err fault) = Err fault
