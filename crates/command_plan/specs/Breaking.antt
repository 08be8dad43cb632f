-- Where a call broke off by a failed write: what had been written and taken by then.
use Rattle.std.specs.Prelude.{◌≡◌, ℕ, ◌<◌, ◌⊎◌, List, [], ◌++◌, length, Option}
use Rattle.std.specs.List.{concat}
use Rattle.std.specs.Io.KnownBytes.{Appends, IsAtEnd}
use Rattle.pcap_files.specs.Stream.{Told}
use Rattle.command_plan.specs.Amounts.{IsTakenOf, IsBehindHead}
use Rattle.command_plan.specs.Meaning.{CommandMeaning, nothing, command}
use Rattle.command_plan.specs.Plan.{Plan, Done, Refuse, Ask, OpenCapture, TakeNext, Pick, Say, RunLanes, MayHold, MayTell}

-- These lines stand whole, and behind them a part of the text of the next ones, which is not all of it.
abbrev pub BreaksWithin : Option (List ℕ) → Option (List ℕ) → List (List ℕ) → List (List ℕ) → Type 0
BreaksWithin old new before these =
    (front : List ℕ) × (rest : List ℕ) × (concat these ≡ front ++ rest) × (0 < length rest) × Appends old new (concat before ++ front)

-- A call by this plan may break off within these lines, which are said at once, when the lines before them stand whole
-- and this is left of the file that was opened last. `left` is what was left of one before.
unfoldable pub MayBreak : {A : Type 0} → Plan A → (List ℕ → Option (List ℕ)) → (left : Option (List ℕ)) → (before these : List (List ℕ)) → (now : Option (List ℕ)) → Type 0
MayBreak (Done x) file left before these now = ⊥
MayBreak (Refuse refusal) file left before these now = ⊥
MayBreak (Ask input path rest) file left before these now =
    (bytes : List ℕ) × MayHold input (file path) bytes × (next : Option (List ℕ)) × IsAtEnd next × MayBreak (rest bytes) file next before these now
MayBreak (OpenCapture input path rest) file left before these now =
    (found : Told) × MayTell (file path) found × (next : Option (List ℕ)) × IsBehindHead (file path) next × MayBreak (rest found) file next before these now
MayBreak (TakeNext input amount rest) file left before these now =
    (next : Option (List ℕ)) × IsTakenOf amount left next × MayBreak rest file next before these now
MayBreak (Pick {X = X} P rest) file left before these now = (x : X) × P x × MayBreak (rest x) file left before these now
MayBreak (Say lines rest) file left before these now =
    ((before ≡ []) × (these ≡ lines) × (now ≡ left))
    ⊎ ((more : List (List ℕ)) × (before ≡ lines ++ more) × MayBreak rest file left more these now)
MayBreak (RunLanes rest) file left before these now = MayBreak rest file left before these now

abbrev pub MayBreakBy : CommandMeaning → (List ℕ → Option (List ℕ)) → (left : Option (List ℕ)) → (before these : List (List ℕ)) → (now : Option (List ℕ)) → Type 0
MayBreakBy nothing file left before these now = ⊥
MayBreakBy (command plan) file left before these now = MayBreak plan file left before these now
