use Rattle.std.specs.Prelude.{All}
use Rattle.apf_asm.specs.Items.{IsItemForm}
use Rattle.apf_asm.proofs.tests.add_loads.Given as goal

abbrev pub invariant-loop : goal.invariant-loop
invariant-loop l = All IsItemForm l.items.items
