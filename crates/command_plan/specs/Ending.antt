-- How a call may end that follows a plan, and what stands on the output then.
use Rattle.std.specs.Prelude.{◌≡◌, ℕ, ◌<◌, ◌⊎◌, List, [], ◌++◌, length, Option, IfSome, Result, Ok, Err, ⊤}
use Rattle.std.specs.List.{concat}
use Rattle.apf_base.specs.Causes.{Rose}
use Rattle.apf_base.specs.Streams.{AppendsFront, AppendsAll}
use Rattle.command_plan.specs.Files.{FileFails, file_limit}
use Rattle.command_plan.specs.Follows.{Stage}
use Rattle.pcap_files.specs.Stream.{Told}
use Rattle.command_plan.specs.Plan.{Plan, Done, Refuse, Ask, OpenCapture, TakeNext, Pick, Say, RunLanes, MayHold, MayTell}
use Rattle.command_plan.specs.declared.fault.Fault.{Fault}
use Rattle.command_plan.specs.declared.fault.Fault.TheVariants.{Usage, Refused, OutOfMemory, Read, Write, Open, Board}

-- ---- the ends of one node, with nothing more written

abbrev pub EndsAs : {A : Type 0} → Result A Fault → List (List ℕ) → Result A Fault → Type 0
EndsAs end lines result = (lines ≡ []) × ((result ≡ end) ⊎ (result ≡ Err OutOfMemory))

-- ---- the ends of a plan

-- A call by this plan may end so, when these lines were written, or where a write failed the first bytes of their text.
-- Causes come in the order of the plan, and a file whose bytes aren't told may hold any.
unfoldable pub MayEnd : {A : Type 0} → Plan A → (List ℕ → Option (List ℕ)) → List (List ℕ) → Result A Fault → Type 0
MayEnd (Done x) file lines end = EndsAs (Ok x) lines end
MayEnd (Refuse refusal) file lines end = EndsAs (Err (Refused refusal)) lines end
MayEnd (Ask input path rest) file lines end =
    ((lines ≡ []) × (fault : Fault) × (end ≡ Err fault) × FileFails input (IfSome (file path) (λ told. file_limit input.kind < length told)) fault)
    ⊎ ((bytes : List ℕ) × MayHold input (file path) bytes × MayEnd (rest bytes) file lines end)
MayEnd (OpenCapture input path rest) file lines end =
    ((lines ≡ []) × (fault : Fault) × (end ≡ Err fault) × FileFails input ⊥ fault)
    ⊎ ((found : Told) × MayTell (file path) found × MayEnd (rest found) file lines end)
MayEnd (TakeNext input amount rest) file lines end =
    ((lines ≡ []) × ((end ≡ Err OutOfMemory) ⊎ (end ≡ Err (Read input)))) ⊎ MayEnd rest file lines end
MayEnd (Pick {X = X} P rest) file lines end = EndsAs (Err OutOfMemory) lines end ⊎ ((x : X) × P x × MayEnd (rest x) file lines end)
MayEnd (Say these rest) file lines end =
    (((more : List (List ℕ)) × (these ≡ lines ++ more)) × ((end ≡ Err OutOfMemory) ⊎ (end ≡ Err Write)))
    ⊎ ((more : List (List ℕ)) × (lines ≡ these ++ more) × MayEnd rest file more end)
MayEnd (RunLanes rest) file lines end = ((lines ≡ []) × ((end ≡ Err OutOfMemory) ⊎ (end ≡ Err Board))) ⊎ MayEnd rest file lines end

-- these lines were written whole, or the first bytes of their text where a write failed
abbrev pub Leaves : {A : Type 0} → Option (List ℕ) → Option (List ℕ) → List (List ℕ) → Result A Fault → Type 0
Leaves old new lines (Err Write) = AppendsFront old new (concat lines)
Leaves old new lines end = AppendsAll old new lines

-- The end is the call's own: an answer or a refusal, and neither a cause from outside nor want of memory.
abbrev pub IsOwn : {A : Type 0} → Result A Fault → Type 0
IsOwn (Ok x) = ⊤
IsOwn (Err (Refused refusal)) = ⊤
IsOwn (Err Usage) = ⊤
IsOwn (Err OutOfMemory) = ⊥
IsOwn (Err (Read input)) = ⊥
IsOwn (Err Write) = ⊥
IsOwn (Err (Open input)) = ⊥
IsOwn (Err Board) = ⊥

-- no count rose
pub record Calm (a b : Stage) : Type 0 where
  pub faults : ¬ Rose a.shelf.faults b.shelf.faults
  pub misses : ¬ Rose a.shelf.misses b.shelf.misses
  pub out_faults : ¬ Rose a.out.faults b.out.faults
  pub board : ¬ Rose a.board b.board
