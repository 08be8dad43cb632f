use Rattle.apf_asm.proofs.Emitted.{Emitted}
use Rattle.apf_asm.proofs.emitting.emit.Given as goal

abbrev pub invariant-loop-number : goal.invariant-loop-number
invariant-loop-number l = Emitted l.items l.number l.code.bytes l.code.places l.code.widths
