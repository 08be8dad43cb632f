-- Each command opens its files before it writes, and reads the last one to its end.
use Rattle.std.proofs.Common.{ℕ, List, [], ◌∷◌, map, true, false, Option, None, Some, Result, Ok, Err, refl}
use Rattle.apf_asm.specs.declared.item.Item.{Item}
use Rattle.apf_asm.specs.declared.item.AsmError.{AsmError}
use Rattle.apf_asm.specs.declared.item.AsmError.TheVariants as labels
use Rattle.apf_asm.specs.declared.text_error.TextError.{TextError}
use Rattle.apf_asm.specs.declared.text_error.TextError.TheVariants as words
use Rattle.apf_asm.specs.Layout.{layout}
use Rattle.apf_asm.specs.Refusals.{answer}
use Rattle.apf_asm.specs.TextReading.{text_answer}
use Rattle.command_plan.specs.Plan.{Plan, Done, ◌>>=◌, says, IsQuiet, ReadsWhole}
use Rattle.code_commands.specs.Asm.{accepts, asm_plan, assembles, reads_items}
use Rattle.code_commands.specs.Disasm.{disasm_plan}
use Rattle.command_plan.specs.Files.{input}
use Rattle.command_plan.specs.Weaving.{share_of}
use Rattle.command_plan.proofs.Weaving.{woven_quiet, woven_reads}
use Rattle.command_plan.specs.declared.fault.FileKind.TheVariants.{Capture}
use Rattle.code_commands.specs.Exec.{exec_plan}

pub exec_sound : (program c : List ℕ) (age : ℕ) → IsQuiet true false (exec_plan program c age) × ReadsWhole false (exec_plan program c age)
unfolding IsQuiet ReadsWhole ◌>>=◌
exec_sound program c age = (
  (tt, λ code. (tt, λ found. woven_quiet (input Capture 2) false found.end (map (share_of 1) found.list) _)),
  λ code found. woven_reads (input Capture 2) false found.end (map (share_of 1) found.list) _,
)

-- a file was asked for before
abbrev IsSound : Plan (Unit {0}) → Type 0
IsSound plan = IsQuiet false false plan × ReadsWhole true plan

by_labels : (items : List Item) (o : Option AsmError) → IsSound ((accepts o >>= λ _. Done (layout items).bytes) >>= λ code. says (code ∷ []))
unfolding IsQuiet ReadsWhole ◌>>=◌
by_labels items None = (tt, refl)
by_labels items (Some (labels.Twice item label)) = (tt, tt)
by_labels items (Some (labels.Unknown item label)) = (tt, tt)
by_labels items (Some (labels.Backward item label)) = (tt, tt)
by_labels items (Some (labels.TooLong bytes)) = (tt, tt)
by_labels items (Some labels.OutOfMemory) = (λ x has. absurd x, λ x has. absurd x)

by_items : (r : Result (List Item) TextError) → IsSound ((reads_items r >>= λ items. assembles items) >>= λ code. says (code ∷ []))
unfolding IsQuiet ReadsWhole ◌>>=◌
by_items (Ok items) = by_labels items (answer items)
by_items (Err (words.Bad line kind)) = (tt, tt)
by_items (Err words.OutOfMemory) = (λ x has. absurd x, λ x has. absurd x)

pub asm_sound : (text : List ℕ) → IsQuiet false false (asm_plan text) × ReadsWhole false (asm_plan text)
unfolding IsQuiet ReadsWhole ◌>>=◌
asm_sound text = ((tt, λ bytes. (by_items (text_answer bytes)).0), λ bytes. (by_items (text_answer bytes)).1)

pub disasm_sound : (program : List ℕ) → IsQuiet false false (disasm_plan program) × ReadsWhole false (disasm_plan program)
unfolding IsQuiet ReadsWhole ◌>>=◌
disasm_sound program = ((tt, λ code entries listed. tt), λ code entries listed. refl)
