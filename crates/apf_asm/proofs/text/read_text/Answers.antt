-- The function's answer is the grammar's.
use Rattle.std.proofs.Common.{arith}
use Rattle.std.specs.Prelude.{All, length, ◌≤◌}
use Rattle.apf_asm.specs.Items.{IsItemForm, item_limit}
use Rattle.apf_asm.specs.TextLines.{TextReads}
use Rattle.apf_asm.specs.TextReading.{text_answer}
use Rattle.apf_asm.proofs.TextLaws.{text_read, text_again, text_refused, text_refused_again, told_found, told_only, told_named, told_refused}
use Rattle.apf_asm.proofs.TextShapes.{text_shape, text_few}
use Rattle.apf_asm.proofs.text.read_text.Goals as goal

pub returns-clause-found : goal.returns-clause-found
returns-clause-found c =
    let text = c.args.text.now in
    told_found c.read_lines.result (text_answer text) (TextReads text) c.read_lines.ensures (λ items e. text_read text items e)

pub returns-clause-only : goal.returns-clause-only
returns-clause-only c items r =
    told_only c.read_lines.result (text_answer c.args.text.now) items c.read_lines.ensures (text_again c.args.text.now items r)

pub returns-clause-named : goal.returns-clause-named
returns-clause-named c line kind e =
    text_refused c.args.text.now line kind (told_named c.read_lines.result (text_answer c.args.text.now) line kind c.read_lines.ensures e)

pub returns-clause-refused : goal.returns-clause-refused
returns-clause-refused c line kind r =
    told_refused c.read_lines.result (text_answer c.args.text.now) line kind c.read_lines.ensures (text_refused_again c.args.text.now line kind r)

pub returns-clause-forms : goal.returns-clause-forms
returns-clause-forms c =
    let text = c.args.text.now in
    told_found c.read_lines.result (text_answer text) (λ items. All IsItemForm items) c.read_lines.ensures (λ items e. text_shape text items (text_read text items e))

pub returns-clause-few : goal.returns-clause-few
returns-clause-few c =
    let text = c.args.text.now in
    told_found c.read_lines.result (text_answer text) (λ items. length items ≤ item_limit) c.read_lines.ensures (λ items e. let few = text_few text items (text_read text items e) in omega arith)
