-- What the items and the rest of the text stand for is what the whole text stands for.
use Rattle.std.proofs.Common.{◌≡◌, ◌+◌, ◌≤◌, length}
use Rattle.plain_text.specs.Lines.{lines_of}
use Rattle.apf_asm.specs.TextReading.{with_items, lines_answer, text_answer}
use Rattle.apf_asm.proofs.text.read_lines.Given as goal

abbrev pub invariant-loop-rest : goal.invariant-loop-rest
invariant-loop-rest l = record {
  answer : text_answer l.text ≡ with_items l.items (lines_answer (l.number + 1) (lines_of l.rest));
  count : l.number + length l.rest ≤ length l.text;
}

abbrev pub decreases-loop-rest : goal.decreases-loop-rest
decreases-loop-rest l = length l.rest
