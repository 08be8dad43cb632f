-- The lines of a text, one after another.
use Rattle.std.proofs.Common.{◌≡◌, ℕ, suc, ◌+◌, ◌-◌, ◌<◌, ◌≤◌, Bool, true, false, cond, not, eqb, ltb, List, [], ◌∷◌, length, take, drop, Some, None, refl, sym, ap, ◌∙◌, arith}
use Rattle.std.specs.List.{position_or_len, onto_first, after_first}
use Rattle.std.proofs.lemmas.Bool.{ltb-true, ltb-false}
use Rattle.std.proofs.lemmas.List.{take_all, drop_all, length-drop}
use Rattle.plain_text.specs.Lines.{lines_of}

-- the place of the first line feed
abbrev pub feed : List ℕ → ℕ
feed text = position_or_len (λ b. eqb b 10) text

step : (b : ℕ) (rest : List ℕ) (yes : Bool) (k : ℕ) → k ≡ suc (feed rest)
    → (feed rest < length rest → lines_of rest ≡ take (feed rest) rest ∷ lines_of (drop (suc (feed rest)) rest))
    → cond (not yes) k 0 < suc (length rest)
    → cond yes ([] ∷ lines_of rest) (onto_first b (lines_of rest)) ≡ take (cond (not yes) k 0) (b ∷ rest) ∷ lines_of (drop (suc (cond (not yes) k 0)) (b ∷ rest))
step b rest true k e more lt = refl
step b rest false k e more lt = rw e (ap (onto_first b) (more (omega arith)))

-- where there is a line feed, it ends the first line
pub lines_of-feed : (text : List ℕ) → feed text < length text → lines_of text ≡ take (feed text) text ∷ lines_of (drop (suc (feed text)) text)
lines_of-feed [] lt = absurd (omega arith)
lines_of-feed (b ∷ rest) lt = step b rest (eqb b 10) (1 + feed rest) (omega arith) (lines_of-feed rest) lt

onto_none : (b : ℕ) (rest : List ℕ) → (0 < length rest → lines_of rest ≡ rest ∷ []) → onto_first b (lines_of rest) ≡ (b ∷ rest) ∷ []
onto_none b [] more = refl
onto_none b (c ∷ rest) more = ap (onto_first b) (more (omega arith))

step_none : (b : ℕ) (rest : List ℕ) (yes : Bool) (k : ℕ) → k ≡ suc (feed rest)
    → (length rest ≤ feed rest → 0 < length rest → lines_of rest ≡ rest ∷ [])
    → suc (length rest) ≤ cond (not yes) k 0
    → cond yes ([] ∷ lines_of rest) (onto_first b (lines_of rest)) ≡ (b ∷ rest) ∷ []
step_none b rest true k e more le = absurd (omega arith)
step_none b rest false k e more le = onto_none b rest (more (omega arith))

-- where there is none, the text is one line
pub lines_of-no_feed : (text : List ℕ) → length text ≤ feed text → 0 < length text → lines_of text ≡ text ∷ []
lines_of-no_feed [] le lt = absurd (omega arith)
lines_of-no_feed (b ∷ rest) le lt = step_none b rest (eqb b 10) (1 + feed rest) (omega arith) (lines_of-no_feed rest) le

-- ---- by the position that a call found

found : (n at len : ℕ) (b : Bool) → ltb n len ≡ b → Some at ≡ cond b (Some n) None → (at ≡ n) × (n < len)
found n at len true t e = (cc, ltb-true n len t)
found n at len false t e = absurd cc

absent : (n len : ℕ) (b : Bool) → ltb n len ≡ b → None ≡ cond b (Some n) None → len ≤ n
absent n len true t e = absurd cc
absent n len false t e = ltb-false n len t

-- the rest of a list, taken whole
rest_whole : (text : List ℕ) (k : ℕ) → take (length text - k) (drop k text) ≡ drop k text
rest_whole text k = take_all (length text - k) (drop k text) (omega (arith, length-drop k text))

pub lines_of-found : (text : List ℕ) (at : ℕ) → Some at ≡ cond (ltb (feed text) (length text)) (Some (feed text)) None
    → lines_of text ≡ take at text ∷ lines_of (take (length text - (at + 1)) (drop (at + 1) text))
lines_of-found text at e =
    let f = found (feed text) at (length text) (ltb (feed text) (length text)) refl e in
    let next : at + 1 ≡ suc (feed text) = let same = f.0 in omega arith in
    rw (rest_whole text (at + 1), next, f.0) (lines_of-feed text f.1)

pub lines_of-absent : (text : List ℕ) → 0 < length text → None ≡ cond (ltb (feed text) (length text)) (Some (feed text)) None → lines_of text ≡ text ∷ []
lines_of-absent text lt e = lines_of-no_feed text (absent (feed text) (length text) (ltb (feed text) (length text)) refl e) lt

-- what stands behind the first line feed

pub after_found : (text : List ℕ) (at : ℕ) → Some at ≡ cond (ltb (feed text) (length text)) (Some (feed text)) None
    → take (length text - (at + 1)) (drop (at + 1) text) ≡ after_first (λ b. eqb b 10) text
after_found text at e =
    let f = found (feed text) at (length text) (ltb (feed text) (length text)) refl e in
    rest_whole text (at + 1) ∙ ap (λ (k : ℕ). drop (k + 1) text) f.0

pub after_absent : (text : List ℕ) → None ≡ cond (ltb (feed text) (length text)) (Some (feed text)) None → [] ≡ after_first (λ b. eqb b 10) text
after_absent text e =
    let past = absent (feed text) (length text) (ltb (feed text) (length text)) refl e in
    sym (drop_all (feed text + 1) text (omega arith))
