use Rattle.std.proofs.Common.{◌≡◌, ◌<◌, ◌+◌, ◌++◌, [], ◌∷◌, ℕ, List, length, map, take, get_or, ap, sym, ◌∙◌, append-nil, rules}
use Rattle.std.specs.List.{concat}
use Rattle.std.proofs.lemmas.Grind.{take_at_read}
use Rattle.std.proofs.lemmas.List.{take_all, map-append}
use Rattle.std.proofs.lemmas.List.Folds.{concat-append}
use Rattle.made_input.proofs.script.opening_text.Goals as goal

one_more : {P : Type 0} (f : P → List ℕ) (list : List P) (i : ℕ) (d : P) (text line after : List ℕ) → i < length list → text ≡ concat (map f (take i list)) → line ≡ f (get_or list i d)
    → after ≡ text ++ line → after ≡ concat (map f (take (i + 1) list))
one_more f list i d text line after below before is now =
    now
    ∙ ap (λ (t : List ℕ). t ++ line) before
    ∙ ap (λ (t : List ℕ). concat (map f (take i list)) ++ t) (is ∙ sym (append-nil (f (get_or list i d))))
    ∙ sym (concat-append (map f (take i list)) (f (get_or list i d) ∷ []))
    ∙ ap concat (sym (map-append f (take i list) (get_or list i d ∷ [])))
    ∙ ap (λ (l : List _). concat (map f l)) (sym (take_at_read list i d below).1)

pub loop-line-preserved : goal.loop-line-preserved
loop-line-preserved c =
    one_more (λ line. line.now) c.opening_lines-line-items.result.now c.loop-line.line-index _ c.loop-line.text c.as_bytes.result.now _ (search rules) c.loop-line.invariant c.as_bytes.ensures.value c.in_ok-extend.ensures.ok

pub returns : goal.returns
returns c =
    c.loop-line.invariant
    ∙ ap (λ (l : List _). concat (map (λ line. line.now) l)) (take_all c.loop-line.line-index c.opening_lines-line-items.result.now c.loop-line-test.false)
    ∙ ap concat c.opening_lines-line-items.ensures
