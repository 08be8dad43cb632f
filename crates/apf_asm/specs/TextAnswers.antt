-- What calls answer where memory may run out.
use Rattle.std.specs.Prelude.{◌≡◌, ℕ, List, ◌++◌, Option, Result, Ok, Err}
use Rattle.std.specs.Option.{option_to_list}
use Rattle.apf_asm.specs.declared.item.Item.{Item}
use Rattle.apf_asm.specs.declared.text_error.TextKind.{TextKind}
use Rattle.apf_asm.specs.declared.text_error.TextError.{TextError}
use Rattle.apf_asm.specs.declared.text_error.TextError.TheVariants as errors
use Rattle.apf_asm.specs.declared.text_line.Refusal.{Refusal}
use Rattle.apf_asm.specs.declared.text_line.Refusal.TheVariants.{Kind, OutOfMemory}

-- the answer for a line, unless memory ran out
abbrev pub Answers : Result (Option Item) Refusal → Result (Option Item) TextKind → Type 0
Answers (Ok found) answer = answer ≡ Ok found
Answers (Err (Kind kind)) answer = answer ≡ Err kind
Answers (Err OutOfMemory) answer = Unit {0}

-- what a line stands for was added to the items, or the line is named, unless memory ran out
abbrev pub AddsItem : Result (Unit {0}) TextError → ℕ → Result (Option Item) TextKind → List Item → List Item → Type 0
AddsItem (Ok done) number answer old new = (found : Option Item) × (answer ≡ Ok found) × (new ≡ old ++ option_to_list found)
AddsItem (Err (errors.Bad line kind)) number answer old new = (line ≡ number) × (answer ≡ Err kind)
AddsItem (Err errors.OutOfMemory) number answer old new = Unit {0}

-- the answer for a text, unless memory ran out
abbrev pub AnswersAs : Result (List Item) TextError → Result (List Item) TextError → Type 0
AnswersAs (Ok items) answer = answer ≡ Ok items
AnswersAs (Err (errors.Bad line kind)) answer = answer ≡ Err (errors.Bad line kind)
AnswersAs (Err errors.OutOfMemory) answer = Unit {0}
