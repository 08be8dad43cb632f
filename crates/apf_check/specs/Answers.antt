-- What a check answers, but for want of memory.
use Rattle.std.specs.Prelude.{◌≡◌, ◌⊎◌, ℕ, Result, Err}
use Rattle.apf_check.specs.declared.flaw.CheckError.{CheckError}
use Rattle.apf_check.specs.declared.flaw.CheckError.TheVariants.{OutOfMemory}

abbrev pub Answers : Result ℕ CheckError → Result ℕ CheckError → Type 0
Answers answer result = (result ≡ answer) ⊎ (result ≡ Err OutOfMemory)
