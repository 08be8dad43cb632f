-- What a command does, as a tree.
use Rattle.std.specs.Prelude.{◌≡◌, ℕ, ◌≤◌, List, length, All, Option, IfSome, ⊤, Bool, true, false, IsTrue}
use Rattle.hex.specs.Hex.{IsBytes}
use Rattle.pcap_files.specs.Stream.{Told, told}
use Rattle.command_plan.specs.Amounts.{Amount, comes_to_end}
use Rattle.command_plan.specs.Files.{file_limit}
use Rattle.command_plan.specs.declared.fault.Input.{Input}
use Rattle.command_plan.specs.declared.fault.Refusal.{Refusal}
use Rattle.command_plan.specs.declared.fault.Refusal.TheVariants.{BadCapture}

-- What a call does that is to answer an A.
pub data Plan (A : Type 0) : Type 1 where
  -- it answers this
  Done : A → Plan A
  -- it ends here, refused
  Refuse : Refusal → Plan A
  -- it opens a file and reads all its bytes, of which there may be as many as its kind allows, and goes on with them
  Ask : Input → List ℕ → (List ℕ → Plan A) → Plan A
  -- it opens a capture, takes its file header, and goes on with what the file tells
  OpenCapture : Input → List ℕ → (Told → Plan A) → Plan A
  -- it takes so much of the capture that is open, and goes on
  TakeNext : Input → Amount → Plan A → Plan A
  -- it chooses something with this property, and goes on with it: one choice for all that follows
  Pick : {X : Type 0} → (X → Type 0) → (X → Plan A) → Plan A
  -- it writes these lines, each handed to the sink as one piece, so that only a sink that fails can cut one, and goes on
  Say : List (List ℕ) → Plan A → Plan A
  -- it runs lanes on a board, which may refuse them, and goes on
  RunLanes : Plan A → Plan A

-- one plan behind another
infixl 10 ◌>>=◌
unfoldable pub ◌>>=◌ : {A B : Type 0} → Plan A → (A → Plan B) → Plan B
(Done x) >>= next = next x
(Refuse refusal) >>= next = Refuse refusal
(Ask input path rest) >>= next = Ask input path (λ bytes. rest bytes >>= next)
(OpenCapture input path rest) >>= next = OpenCapture input path (λ found. rest found >>= next)
(TakeNext input amount rest) >>= next = TakeNext input amount (rest >>= next)
(Pick P rest) >>= next = Pick P (λ x. rest x >>= next)
(Say lines rest) >>= next = Say lines (rest >>= next)
(RunLanes rest) >>= next = RunLanes (rest >>= next)

-- ---- the plans of one step

-- all bytes of a file
abbrev pub asks : Input → List ℕ → Plan (List ℕ)
asks input path = Ask input path Done

-- what a capture tells, which is open from then on
abbrev pub opens : Input → List ℕ → Plan Told
opens input path = OpenCapture input path Done

-- so much of the capture that is open
abbrev pub takes : Input → Amount → Plan (Unit {0})
takes input amount = TakeNext input amount (Done tt)

-- something with this property
abbrev pub picks : {X : Type 0} → (X → Type 0) → Plan X
picks P = Pick P Done

-- these lines, each as one piece
abbrev pub says : List (List ℕ) → Plan (Unit {0})
says lines = Say lines (Done tt)

-- lanes on a board
abbrev pub runs_lanes : Plan (Unit {0})
runs_lanes = RunLanes (Done tt)

-- there is nothing to go on with
abbrev pub never : {A : Type 0} → Plan A
never = Pick {X = ⊥} (λ x. ⊤) (λ x. absurd x)

-- it goes on unless this is refused
abbrev pub unless : Option Refusal → Plan (Unit {0})
unless Option.None = Done tt
unless (Option.Some refusal) = Refuse refusal

-- it writes some lines with this property, and then ends, refused or not
abbrev pub says_some : (List (List ℕ) → Type 0) → Option Refusal → Plan (Unit {0})
says_some IsText refusal = picks IsText >>= λ lines. says lines >>= λ _. unless refusal

-- ---- what is read off a plan

-- what a file may hold, where its bytes are told: bytes, of which there are as many as its kind allows
pub record MayHold (input : Input) (told : Option (List ℕ)) (bytes : List ℕ) : Type 0 where
  pub fits : length bytes ≤ file_limit input.kind
  pub are : IsBytes bytes
  pub same : IfSome told (λ all. bytes ≡ all)

-- what a capture may tell, where the bytes of its file are told: frames of bytes
pub record MayTell (bytes : Option (List ℕ)) (found : Told) : Type 0 where
  pub are : All (λ handed. IsBytes handed.frame) found.list
  pub same : IfSome bytes (λ all. found ≡ told all)

-- the shelf may fetch each file that the plan may open
unfoldable pub MayFetch : {A : Type 0} → (List ℕ → Type 0) → Plan A → Type 0
MayFetch may (Done x) = ⊤
MayFetch may (Refuse refusal) = ⊤
MayFetch may (Ask input path rest) = may path × ((bytes : List ℕ) → MayFetch may (rest bytes))
MayFetch may (OpenCapture input path rest) = may path × ((found : Told) → MayFetch may (rest found))
MayFetch may (TakeNext input amount rest) = MayFetch may rest
MayFetch may (Pick {X = X} P rest) = (x : X) → P x → MayFetch may (rest x)
MayFetch may (Say lines rest) = MayFetch may rest
MayFetch may (RunLanes rest) = MayFetch may rest

-- The plan reads a file to its end before it comes to its answer. The test says whether the last one that was opened was
-- read so before.
unfoldable pub ReadsWhole : {A : Type 0} → Bool → Plan A → Type 0
ReadsWhole whole (Done x) = IsTrue whole
ReadsWhole whole (Refuse refusal) = ⊤
ReadsWhole whole (Ask input path rest) = (bytes : List ℕ) → ReadsWhole true (rest bytes)
ReadsWhole whole (OpenCapture input path rest) = (found : Told) → ReadsWhole false (rest found)
ReadsWhole whole (TakeNext input amount rest) = ReadsWhole (comes_to_end amount) rest
ReadsWhole whole (Pick {X = X} P rest) = (x : X) → P x → ReadsWhole whole (rest x)
ReadsWhole whole (Say lines rest) = ReadsWhole whole rest
ReadsWhole whole (RunLanes rest) = ReadsWhole whole rest

-- ---- plans that read and check everything before they write

-- a refusal of a capture, whose whole records have their lines
abbrev pub IsOfCapture : Refusal → Type 0
IsOfCapture (BadCapture fault) = ⊤
IsOfCapture refusal = ⊥

-- where lines were said before, a capture alone may be refused
abbrev pub MayRefuse : Bool → Refusal → Type 0
MayRefuse false refusal = ⊤
MayRefuse true refusal = IsOfCapture refusal

-- and no file may be opened, nor lanes run
abbrev pub MayAsk : Bool → Type 0
MayAsk false = ⊤
MayAsk true = ⊥

-- Behind its lines the plan opens no file, runs no lanes, and refuses nothing but a capture. The first test says whether
-- it takes its capture by and by, also between lines; the second one whether lines were said before.
unfoldable pub IsQuiet : {A : Type 0} → Bool → Bool → Plan A → Type 0
IsQuiet by_and_by said (Done x) = ⊤
IsQuiet by_and_by said (Refuse refusal) = MayRefuse said refusal
IsQuiet by_and_by said (Ask input path rest) = MayAsk said × ((bytes : List ℕ) → IsQuiet by_and_by said (rest bytes))
IsQuiet by_and_by said (OpenCapture input path rest) = MayAsk said × ((found : Told) → IsQuiet by_and_by said (rest found))
IsQuiet by_and_by said (TakeNext input amount rest) = IsTrue by_and_by × IsQuiet by_and_by said rest
IsQuiet by_and_by said (Pick {X = X} P rest) = (x : X) → P x → IsQuiet by_and_by said (rest x)
IsQuiet by_and_by said (Say lines rest) = IsQuiet by_and_by true rest
IsQuiet by_and_by said (RunLanes rest) = MayAsk said × IsQuiet by_and_by said rest
