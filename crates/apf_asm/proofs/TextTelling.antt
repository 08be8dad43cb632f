-- A line more, and what the text stands for.
use Rattle.std.proofs.Common.{◌≡◌, ℕ, ◌+◌, true, eqb, List, [], ◌∷◌, ◌++◌, length, Option, Result, Ok, Err, refl, sym, ap, ◌∙◌, append_assoc, arith}
use Rattle.std.proofs.lemmas.Bool.{eqb-true}
use Rattle.std.proofs.lemmas.List.{append-nil}
use Rattle.std.specs.Option.{option_to_list}
use Rattle.apf_asm.specs.declared.item.Item.{Item}
use Rattle.apf_asm.specs.declared.text_error.TextKind.{TextKind}
use Rattle.apf_asm.specs.declared.text_error.TextError.{TextError}
use Rattle.apf_asm.specs.declared.text_error.TextError.TheVariants.{Bad, OutOfMemory}
use Rattle.apf_asm.specs.TextAnswers.{AddsItem, AnswersAs}
use Rattle.plain_text.specs.Lines.{lines_of}
use Rattle.apf_asm.specs.TextReading.{line_answer, with_items, goes_on, lines_answer}

with_front-with_front : (a b : List Item) (r : Result (List Item) TextError) → with_items a (with_items b r) ≡ with_items (a ++ b) r
with_front-with_front a b (Ok items) = ap Ok (sym (append_assoc a b items))
with_front-with_front a b (Err e) = refl

pub turn : (answer : Result (List Item) TextError) (items new : List Item) (n : ℕ) (line : List ℕ) (lines : List (List ℕ)) (found : Option Item)
    → answer ≡ with_items items (lines_answer (n + 1) (line ∷ lines)) → line_answer line ≡ Ok found → new ≡ items ++ option_to_list found → answer ≡ with_items new (lines_answer (n + 1 + 1) lines)
unfolding lines_answer
turn answer items new n line lines found e read same =
    let front : List Item = option_to_list found in
    let later = lines_answer (n + 1 + 1) lines in
    e ∙ ap (λ (r : Result (Option Item) TextKind). with_items items (goes_on r (n + 1) later)) read ∙ with_front-with_front items front later ∙ ap (λ (all : List Item). with_items all later) (sym same)

pub named : (answer : Result (List Item) TextError) (items old new : List Item) (n : ℕ) (line : List ℕ) (lines : List (List ℕ)) (e : TextError)
    → answer ≡ with_items items (lines_answer (n + 1) (line ∷ lines)) → AddsItem (Err e) (n + 1) (line_answer line) old new → AnswersAs (Err e) answer
unfolding lines_answer
named answer items old new n line lines (Bad number kind) e adds =
    rw adds.0 (e ∙ ap (λ (r : Result (Option Item) TextKind). with_items items (goes_on r (n + 1) (lines_answer (n + 1 + 1) lines))) adds.1)
named answer items old new n line lines OutOfMemory e adds = tt

pub ended : (answer : Result (List Item) TextError) (items : List Item) (n : ℕ) (lines : List (List ℕ)) → lines ≡ [] → answer ≡ with_items items (lines_answer n lines) → answer ≡ Ok items
unfolding lines_answer
ended answer items n lines none e = e ∙ ap (λ (ls : List (List ℕ)). with_items items (lines_answer n ls)) none ∙ ap Ok (append-nil items)

pub no_lines : (text : List ℕ) → true ≡ eqb (length text) 0 → lines_of text ≡ []
no_lines [] e = refl
no_lines (b ∷ text) e = let none = eqb-true (length (b ∷ text)) 0 (sym e) in absurd (omega arith)
