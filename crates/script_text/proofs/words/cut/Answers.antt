-- The position of the first such byte, if there is one.
use Rattle.std.proofs.Common.{eqb, sym, ◌∙◌, refl, rules, tests}
use Rattle.std.proofs.lemmas.Iterator.{YieldsList-from_slice}
use Rattle.std.proofs.lemmas.Iterator.Search.{position_from_yields_List}
use Rattle.script_text.proofs.AddressWords.{cut_at, cut_none}
use Rattle.script_text.proofs.words.cut.Goals as goal

pub returns : goal.returns
returns c =
    let word = c.args.word.now in
    let at = position_from_yields_List (λ b. eqb b c.args.byte) _ _ c.position.result c.position.ensures.ran (YieldsList-from_slice word cc) (λ x b q k. search (rules, tests)) in
    cut_at c.args.byte c.in-Some.at word (sym c.in-Some.is ∙ at)

pub returns-in_default : goal.returns-in_default
returns-in_default c =
    let word = c.args.word.now in
    let at = position_from_yields_List (λ b. eqb b c.args.byte) _ _ c.position.result c.position.ensures.ran (YieldsList-from_slice word cc) (λ x b q k. search (rules, tests)) in
    cut_none c.args.byte word _ refl (sym c.in_default.is ∙ at)
