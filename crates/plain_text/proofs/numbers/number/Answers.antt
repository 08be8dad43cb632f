use Rattle.std.proofs.Common.{◌≡◌, ◌∙◌, sym, true}
use Rattle.std.specs.Str.{IsUtf8}
use Rattle.plain_text.specs.Numbers.{is_numeral}
use Rattle.plain_text.proofs.Numerals.{parsed, numeral_is_text, not_numeral, same_text, no_text}
use Rattle.plain_text.proofs.numbers.number.Goals as goal

pub returns-then-not-is_numeral : goal.returns-then-not-is_numeral
returns-then-not-is_numeral c = sym (not_numeral 4294967295 c.args.word.now cc)

pub returns-in_err-ok : goal.returns-in_err-ok
returns-in_err-ok c =
    let numeral : is_numeral c.args.word.now ≡ true = cc in
    absurd (no_text c.from_utf8.result _ (IsUtf8 c.args.word.now) _ (sym c.ok.ensures.value ∙ c.in_err-ok.was) c.from_utf8.ensures.cases (numeral_is_text c.args.word.now numeral))

pub returns : goal.returns
returns c =
    let numeral : is_numeral c.args.word.now ≡ true = cc in
    let same = same_text (λ s. s.now) c.from_utf8.result c.in_ok-ok.field-0 c.args.word.now _ _ (sym c.ok.ensures.value ∙ c.in_ok-ok.was) c.from_utf8.ensures.cases in
    c.ok-2.ensures.value ∙ parsed c.args.word.now c.in_ok-ok.field-0.now c.parse.result numeral same c.parse.ensures.value.0
