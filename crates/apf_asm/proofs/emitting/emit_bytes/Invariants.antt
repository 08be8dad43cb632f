use Rattle.apf_asm.proofs.Emitted.{BytesEmitted}
use Rattle.apf_asm.proofs.emitting.emit_bytes.Given as goal

abbrev pub invariant-loop-number : goal.invariant-loop-number
invariant-loop-number l = BytesEmitted l.items l.number l.bytes
