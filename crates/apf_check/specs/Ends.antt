-- How the runs of an orderly program end.
use Rattle.std.specs.Prelude.{◌≡◌, ◌≢◌, ℕ, ◌≤◌, ◌⊎◌}
use Rattle.apf_coding.specs.declared.machine.FaultKind.{FaultKind}
use Rattle.apf_coding.specs.declared.machine.FaultKind.TheVariants.{Frame, Memory, Division}
use Rattle.apf_coding.specs.declared.machine.Why.TheVariants as whys
use Rattle.apf_coding.specs.Run.{Run}

-- a fault that hangs on the frame, the memory or a divisor
abbrev pub IsOfData : FaultKind → Type 0
IsOfData kind = (kind ≡ Frame) ⊎ ((kind ≡ Memory) ⊎ (kind ≡ Division))

-- after at most so many steps, never by its budget, and never by a fault of the program's own form
pub record EndsWithin (most : ℕ) (r : Run) : Type 0 where
  pub steps : r.outcome.steps ≤ most
  pub budget : r.outcome.why ≢ whys.Budget
  pub faults : (kind : FaultKind) (at : ℕ) → r.outcome.why ≡ whys.Fault kind at → IsOfData kind
