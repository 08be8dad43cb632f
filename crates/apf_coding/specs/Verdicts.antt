-- The words of the verdicts.
use Rattle.std.specs.Prelude.{ℕ, List, codes}
use Rattle.apf_coding.specs.declared.machine.Verdict.{Verdict}
use Rattle.apf_coding.specs.declared.machine.Verdict.TheVariants.{Pass, Drop}

-- the word of a verdict
unfoldable pub verdict_word : Verdict → List ℕ
verdict_word Pass = codes "pass"
verdict_word Drop = codes "drop"
