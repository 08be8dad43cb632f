-- What was found is the one answer, and the runs of an orderly program end.
use Rattle.std.proofs.Common.{◌≡◌, ℕ, List}
use Rattle.std.specs.Prelude.{Result, Ok, Err, IfOk, IfErr}
use Rattle.apf_coding.specs.Run.{run}
use Rattle.apf_check.specs.declared.flaw.Flaw.{Flaw}
use Rattle.apf_check.specs.Orderly.{IsOrderly, IsFirstFlaw, IsAnswer}
use Rattle.apf_check.specs.Ends.{EndsWithin}
use Rattle.apf_check.proofs.Ending.{run-ends}
use Rattle.apf_check.proofs.Answering.{one_answer}

is_answer : (program : List ℕ) (r : Result ℕ Flaw) → IfOk r (λ count. IsOrderly program count) → IfErr r (λ flaw. IsFirstFlaw program flaw) → IsAnswer program r
is_answer program (Ok count) orderly flawed = orderly
is_answer program (Err flaw) orderly flawed = flawed

pub only_answer : (program : List ℕ) (r answer : Result ℕ Flaw) → IfOk r (λ count. IsOrderly program count) → IfErr r (λ flaw. IsFirstFlaw program flaw) → IsAnswer program answer → r ≡ answer
only_answer program r answer orderly flawed is = one_answer program r answer (is_answer program r orderly flawed) is

pub all_end : (program : List ℕ) (r : Result ℕ Flaw) → IfOk r (λ count. IsOrderly program count) → IfOk r (λ count. (memory frame : List ℕ) (age : ℕ) → EndsWithin count (run program memory frame age))
all_end program (Ok count) orderly = λ memory frame age. run-ends program memory frame age count orderly
all_end program (Err flaw) orderly = tt
