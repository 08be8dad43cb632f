use Rattle.std.specs.Prelude.{All}
use Rattle.apf_asm.specs.Items.{IsItemForm}
use Rattle.apf_asm.proofs.tests.items_of.Given as goal

abbrev pub invariant-loop-part : goal.invariant-loop-part
invariant-loop-part l = All IsItemForm l.items.items
