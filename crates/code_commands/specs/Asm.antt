-- `asm`: the code of assembler text.
use Rattle.std.specs.Prelude.{ℕ, List, [], ◌∷◌, Option, None, Some, Result, Ok, Err}
use Rattle.apf_asm.specs.declared.item.Item.{Item}
use Rattle.apf_asm.specs.declared.item.AsmError.{AsmError}
use Rattle.apf_asm.specs.declared.item.AsmError.TheVariants as labels
use Rattle.apf_asm.specs.declared.text_error.TextError.{TextError}
use Rattle.apf_asm.specs.declared.text_error.TextError.TheVariants as texts
use Rattle.apf_asm.specs.Layout.{layout}
use Rattle.apf_asm.specs.Refusals.{answer}
use Rattle.apf_asm.specs.TextReading.{text_answer}
use Rattle.command_plan.specs.Files.{input}
use Rattle.command_plan.specs.Plan.{Plan, ◌>>=◌, Done, Refuse, asks, says, never}
use Rattle.command_plan.specs.declared.fault.FileKind.TheVariants.{Text}
use Rattle.command_plan.specs.declared.fault.Refusal.TheVariants.{BadText, Twice, Unknown, Backward, CodeTooLong}

-- the items of a text, or its first refused line
abbrev pub reads_items : Result (List Item) TextError → Plan (List Item)
reads_items (Ok items) = Done items
reads_items (Err (texts.Bad line kind)) = Refuse (BadText line kind)
reads_items (Err texts.OutOfMemory) = never

-- the first label that is refused, or a code that is too long
abbrev pub accepts : Option AsmError → Plan (Unit {0})
accepts None = Done tt
accepts (Some (labels.Twice item label)) = Refuse (Twice item label)
accepts (Some (labels.Unknown item label)) = Refuse (Unknown item label)
accepts (Some (labels.Backward item label)) = Refuse (Backward item label)
accepts (Some (labels.TooLong bytes)) = Refuse CodeTooLong
accepts (Some labels.OutOfMemory) = never

-- the code of items
abbrev pub assembles : List Item → Plan (List ℕ)
assembles items = do
  _ ← accepts (answer items)
  Done (layout items).bytes

-- the code of a text
abbrev pub reads_code : List ℕ → Plan (List ℕ)
reads_code text = do
  items ← reads_items (text_answer text)
  assembles items

-- `asm TEXT`
abbrev pub asm_plan : List ℕ → Plan (Unit {0})
asm_plan text = do
  bytes ← asks (input Text 1) text
  code ← reads_code bytes
  says (code ∷ [])
