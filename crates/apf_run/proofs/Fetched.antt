-- A shelf that may fetch every file may fetch those that words name.
use Rattle.std.proofs.Common.{ℕ, List}
use Rattle.command_plan.specs.Meaning.{CommandMeaning, nothing, command, MayFetchFor}
use Rattle.command_plan.specs.Plan.{Plan, Done, Refuse, Ask, OpenCapture, TakeNext, Pick, Say, RunLanes, MayFetch}

module _ (may : List ℕ → Type 0) (all : (name : List ℕ) → may name) where
  fetches : {A : Type 0} (plan : Plan A) → MayFetch may plan
  unfolding MayFetch
  fetches (Done x) = tt
  fetches (Refuse refusal) = tt
  fetches (Ask input path rest) = (all path, λ bytes. fetches (rest bytes))
  fetches (OpenCapture input path rest) = (all path, λ found. fetches (rest found))
  fetches (TakeNext input amount rest) = fetches rest
  fetches (Pick P rest) = λ x has. fetches (rest x)
  fetches (Say lines rest) = fetches rest
  fetches (RunLanes rest) = fetches rest

  pub fetches_all : (m : CommandMeaning) → MayFetchFor may m
  fetches_all nothing = tt
  fetches_all (command plan) = fetches plan
