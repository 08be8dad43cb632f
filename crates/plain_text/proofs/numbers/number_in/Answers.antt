-- A limit of 32 bits is at most the greatest number of 32 bits.
use Rattle.std.proofs.Common.{◌∙◌, sym, arith}
use Rattle.plain_text.proofs.Numerals.{lower-none, lower-some, lower-over}
use Rattle.plain_text.proofs.numbers.number_in.Goals as goal

pub returns-in-Some : goal.returns-in-Some
returns-in-Some c = sym (lower-some 4294967295 c.args.limit c.args.word.now c.in-Some.n (sym c.number.ensures ∙ c.in-Some.is) (omega arith))

pub returns-in_default : goal.returns-in_default
returns-in_default c = sym (lower-over 4294967295 c.args.limit c.args.word.now c.in-Some.n (sym c.number.ensures ∙ c.in-Some.is) (omega arith))

pub returns-in_default-2 : goal.returns-in_default-2
returns-in_default-2 c = sym (lower-none 4294967295 c.args.limit c.args.word.now (omega arith) (sym c.number.ensures ∙ c.in_default.is))
