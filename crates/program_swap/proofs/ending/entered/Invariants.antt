use Rattle.std.proofs.Common.{◌≡◌, ◌%◌, ◌^◌, take}
use Rattle.program_swap.proofs.Living.{entered_by}
use Rattle.program_swap.proofs.ending.entered.Given as goal

abbrev pub invariant-loop-end : goal.invariant-loop-end
invariant-loop-end l = l.sum ≡ entered_by (take l.end-index l.ends) % 2 ^ 64
