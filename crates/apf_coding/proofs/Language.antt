-- Rulings of any type that tells what is said.
use Rattle.std.proofs.Common.{◌≡◌, ℕ, ◌<◌, ◌≤◌, Option, Some, None}
use Rattle.apf_coding.specs.declared.machine.Verdict.{Verdict}
use Rattle.apf_coding.specs.Said.{Said, Missing, Says, Silent}

-- what is said, or where that is nothing what is said later
abbrev pub said_first : Said → Said → Said
said_first Silent later = later
said_first Missing later = Missing
said_first (Says verdict number) later = Says verdict number

-- a counter that has a word in a memory of 128 bytes
pub record HasWord (number : ℕ) : Type 0 where
  pub least : 0 < number
  pub most : number ≤ 32

-- A type of rulings and one of counters, in which the three things are said and joined.
pub record Language (R C : Type 0) : Type 0 where
  pub said : R → Said
  pub number : C → ℕ
  pub missing : R
  pub silent : R
  pub says : Verdict → C → R
  pub otherwise : R → R → R
  pub said-missing : said missing ≡ Missing
  pub said-silent : said silent ≡ Silent
  pub said-says : (verdict : Verdict) (c : C) → said (says verdict c) ≡ Says verdict (number c)
  pub said-otherwise : (a b : R) → said (otherwise a b) ≡ said_first (said a) (said b)
  pub has_word : (c : C) → HasWord (number c)

-- a field is read, and where it is missing that is the ruling
abbrev pub reading : {R C A : Type 0} → Language R C → Option A → (A → R) → R
reading L None k = L.missing
reading L (Some v) k = k v
