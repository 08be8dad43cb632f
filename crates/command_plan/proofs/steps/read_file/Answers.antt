use Rattle.std.proofs.Common.{List, ℕ, subst}
use Rattle.hex.specs.Hex.{IsBytes}
use Rattle.command_plan.proofs.steps.read_file.Goals as goal

pub returns-in-Ok-clause-bytes : goal.returns-in-Ok-clause-bytes
returns-in-Ok-clause-bytes g c = subst (λ (l : List ℕ). IsBytes l) c.as_slice.ensures c.are_bytes.ensures
