use Rattle.apf_asm.specs.Labels.{found}
use Rattle.apf_asm.proofs.Spaced.{Spaced}
use Rattle.apf_asm.proofs.spacing.space.Given as goal

abbrev pub invariant-loop-number : goal.invariant-loop-number
invariant-loop-number l = Spaced l.items l.number l.widths.items l.offsets.items (λ k. found l.behind.near.items l.behind.far k) l.here
