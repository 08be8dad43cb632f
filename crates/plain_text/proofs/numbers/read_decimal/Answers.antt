use Rattle.std.proofs.Common.{ap, ◌∙◌, arith}
use Rattle.plain_text.specs.Numbers.{number_within}
use Rattle.plain_text.proofs.Numerals.{found_from, number_of-decimal}
use Rattle.plain_text.proofs.numbers.read_decimal.Goals as goal

pub returns-clause-found : goal.returns-clause-found
returns-clause-found c = found_from c.args.limit c.args.word.now c.number_in.result (omega arith) c.number_in.ensures

pub returns-clause-only : goal.returns-clause-only
returns-clause-only c = λ n writes.
    c.number_in.ensures ∙ ap (number_within c.args.limit) writes.1 ∙ number_of-decimal c.args.limit n (omega arith) writes.0
