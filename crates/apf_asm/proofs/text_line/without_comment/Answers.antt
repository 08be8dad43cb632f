-- The position of the first semicolon, if there is one.
use Rattle.std.proofs.Common.{◌≡◌, ℕ, Bool, true, false, cond, eqb, ltb, length, take, Some, None, refl, sym, ap, ◌∙◌, rules, tests}
use Rattle.std.specs.List.{position_or_len}
use Rattle.std.proofs.lemmas.Bool.{ltb-false}
use Rattle.std.proofs.lemmas.List.{take_all}
use Rattle.std.proofs.lemmas.Iterator.{YieldsList-from_slice}
use Rattle.std.proofs.lemmas.Iterator.Search.{position_from_yields_List}
use Rattle.apf_asm.proofs.text_line.without_comment.Goals as goal

found : (n at : ℕ) (b : Bool) → Some at ≡ cond b (Some n) None → at ≡ n
found n at true e = cc
found n at false e = absurd cc

absent : (n : ℕ) (b : Bool) → None ≡ cond b (Some n) None → b ≡ false
absent n true e = absurd cc
absent n false e = refl

pub returns-in-Some : goal.returns-in-Some
returns-in-Some c =
    let line = c.args.line.now in
    let at = position_from_yields_List (λ b. eqb b 59) _ _ c.position.result c.position.ensures.ran (YieldsList-from_slice line cc) (λ x b q k. search (rules, tests)) in
    ap (λ (n : ℕ). take n line) (found (position_or_len (λ b. eqb b 59) line) c.in-Some.at _ (sym c.in-Some.is ∙ at))

pub returns-in-None : goal.returns-in-None
returns-in-None c =
    let line = c.args.line.now in
    let at = position_from_yields_List (λ b. eqb b 59) _ _ c.position.result c.position.ensures.ran (YieldsList-from_slice line cc) (λ x b q k. search (rules, tests)) in
    let past = ltb-false _ _ (absent (position_or_len (λ b. eqb b 59) line) (ltb (position_or_len (λ b. eqb b 59) line) (length line)) (sym c.in-None.is ∙ at)) in
    sym (take_all (position_or_len (λ b. eqb b 59) line) line past)
