use Rattle.std.proofs.Common.{◌≡◌, take, drop}
use Rattle.apf_asm.specs.Refusals.{refused_from, refusal}
use Rattle.apf_asm.proofs.labels.first_refusal.Given as goal

abbrev pub invariant-loop-number : goal.invariant-loop-number
invariant-loop-number l = refusal l.items ≡ refused_from l.number (take l.number l.items) (drop l.number l.items)
