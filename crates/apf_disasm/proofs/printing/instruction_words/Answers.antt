-- The words that each instruction has, and one more or none.
use Rattle.std.proofs.Common.{◌++◌, ◌∙◌, string_bytes, sym}
use Rattle.std.specs.Prelude.{codes}
use Rattle.std.specs.Fmt.{decimal}
use Rattle.apf_coding.specs.Instruction.{view}
use Rattle.apf_disasm.proofs.Parts.{text_is, words_alone, words_second, words_bytes}
use Rattle.apf_disasm.proofs.printing.instruction_words.Goals as goal

pub returns-then-has_second : goal.returns-then-has_second
returns-then-has_second c =
    let i = view c.args.i.now in
    let front = string_bytes c.in_ok-front.front in
    let has = sym c.has_second.ensures ∙ c.if-has_second.true in
    text_is c.format-then-has_second.result (front ++ (codes " " ++ decimal i.second)) _ c.format-then-has_second.ensures.ok
    (words_second i c.name-name.result.now front c.requires has c.name-name.ensures c.in_ok-front.ensures.ok)

pub returns-in_ok-bytes : goal.returns-in_ok-bytes
returns-in_ok-bytes c =
    let i = view c.args.i.now in
    let front = string_bytes c.in_ok-front.front in
    let digits = string_bytes c.in_ok-bytes.bytes in
    let has = sym c.has_second.ensures ∙ c.if-has_second.false in
    let counted = sym c.is_counted.ensures ∙ c.if-is_counted.true in
    text_is c.format-then-is_counted.result (front ++ (codes " x" ++ digits)) _ c.format-then-is_counted.ensures.ok
    (words_bytes i c.name-name.result.now front digits c.requires has counted c.in_ok-bytes.ensures c.name-name.ensures c.in_ok-front.ensures.ok)

pub returns-else-is_counted : goal.returns-else-is_counted
returns-else-is_counted c =
    let i = view c.args.i.now in
    let has = sym c.has_second.ensures ∙ c.if-has_second.false in
    let counted = sym c.is_counted.ensures ∙ c.if-is_counted.false in
    words_alone i c.name-name.result.now (string_bytes c.in_ok-front.front) c.requires has counted c.name-name.ensures c.in_ok-front.ensures.ok
