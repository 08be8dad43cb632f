-- Each turn takes a line off the rest.
use Rattle.std.proofs.Common.{ℕ, ◌+◌, List, ap, ◌∙◌, arith}
use Rattle.std.proofs.lemmas.Result.{err_from_is_err_and}
use Rattle.plain_text.specs.Lines.{lines_of}
use Rattle.apf_asm.specs.TextReading.{with_items, lines_answer, text_answer}
use Rattle.apf_asm.proofs.TextTelling.{turn, named, ended, no_lines}
use Rattle.apf_asm.proofs.text.read_lines.Goals as goal

pub returns-in_err-add_line : goal.returns-in_err-add_line
returns-in_err-add_line c =
    let l = c.loop-rest in
    let p = err_from_is_err_and c.from_residual.result c.from_residual.ensures.1 in
    let split = l.invariant.answer ∙ ap (λ (lines : List (List ℕ)). with_items l.items (lines_answer (l.number + 1) lines)) c.first_line.ensures.lines in
    rw (p.1, p.2) (named (text_answer c.args.text.now) l.items l.items c.add_line.new.items l.number c.first_line.result.0.now (lines_of c.first_line.result.1.now) c.in_err-add_line.field-0.0 split c.in_err-add_line.ensures)

pub loop-rest-preserved : goal.loop-rest-preserved
loop-rest-preserved c =
    let l = c.loop-rest in
    let split = l.invariant.answer ∙ ap (λ (lines : List (List ℕ)). with_items l.items (lines_answer (l.number + 1) lines)) c.first_line.ensures.lines in
    let added = c.in_ok-add_line.ensures in
    record {
      answer = turn (text_answer c.args.text.now) l.items c.add_line.new.items l.number c.first_line.result.0.now (lines_of c.first_line.result.1.now) added.0 split added.1 added.2;
      count = omega arith;
    }

pub returns : goal.returns
returns c =
    let l = c.loop-rest in
    ended (text_answer c.args.text.now) l.items (l.number + 1) (lines_of l.rest.now) (no_lines l.rest.now c.loop-rest-test.ensures) l.invariant.answer
