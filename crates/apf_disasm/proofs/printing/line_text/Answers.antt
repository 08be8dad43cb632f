-- The words, and the place as a comment.
use Rattle.std.proofs.Common.{◌∷◌, [], ◌++◌, string_bytes}
use Rattle.std.specs.Prelude.{codes}
use Rattle.std.specs.Fmt.{decimal}
use Rattle.apf_coding.specs.Instruction.{view}
use Rattle.apf_disasm.proofs.Parts.{text_is, op_text, byte_text}
use Rattle.apf_disasm.proofs.printing.line_text.Goals as goal

pub returns-in_ok-words-in-Op : goal.returns-in_ok-words-in-Op
returns-in_ok-words-in-Op c =
    let words = string_bytes c.in_ok-words-in-Op.words in
    let at = c.in-Op.at in
    rw c.in-Op.is
    (text_is c.format.result (words ++ (codes " ; at " ++ (decimal at ++ 10 ∷ []))) _ c.format.ensures.ok (op_text words at (view c.in-Op.instr) c.in_ok-words-in-Op.ensures))

pub returns-in-Byte : goal.returns-in-Byte
returns-in-Byte c =
    let at = c.in-Byte.at in
    let value = c.in-Byte.value in
    rw c.in-Byte.is
    (text_is c.format-in-Byte.result (codes ".byte " ++ (decimal value ++ (codes " ; at " ++ (decimal at ++ 10 ∷ [])))) _ c.format-in-Byte.ensures.ok (byte_text at value))
