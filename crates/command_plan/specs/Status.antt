-- The exit statuses, and the lines that say why.
use Rattle.std.specs.Prelude.{ℕ, List, [], ◌∷◌, ◌++◌, ◌⊎◌, codes, Option, Result, Ok, Err, slice_index_or}
use Rattle.std.specs.List.{concat}
use Rattle.std.specs.Fmt.{decimal}
use Rattle.std.specs.Io.KnownBytes.{Appends, Keeps}
use Rattle.apf_base.specs.Streams.{AppendsFront}
use Rattle.apf_asm.specs.declared.text_error.TextKind.{TextKind}
use Rattle.apf_asm.specs.declared.text_error.TextKind.TheVariants.{Ascii, Word, Operand}
use Rattle.pcap_files.specs.declared.fault.PcapError.{PcapError}
use Rattle.pcap_files.specs.declared.fault.PcapError.TheVariants.{Magic, Version, Link, Cut, Length}
use Rattle.pcap_files.specs.declared.fault.PcapError.TheVariants as captures
use Rattle.script_text.specs.declared.script_error.ScriptKind.{ScriptKind}
use Rattle.script_text.specs.declared.script_error.ScriptKind.TheVariants.{Form, Order, End}
use Rattle.command_plan.specs.Files.{kind_name, file_limit}
use Rattle.command_plan.specs.declared.fault.FileKind.TheVariants.{Program}
use Rattle.command_plan.specs.declared.fault.Refusal.{Refusal}
use Rattle.command_plan.specs.declared.fault.Refusal.TheVariants.{BadCapture, BadScript, BadText, Twice, Unknown, Backward, TooLong, CodeTooLong, TooLarge}
use Rattle.command_plan.specs.declared.fault.Fault.{Fault}
use Rattle.command_plan.specs.declared.fault.Fault.TheVariants.{Usage, Refused, OutOfMemory, Read, Write, Open, Board}

-- ---- statuses

abbrev pub refusal_status : Refusal → ℕ
refusal_status (BadCapture fault) = 65
refusal_status (BadScript line kind) = 66
refusal_status (BadText line kind) = 67
refusal_status (Twice item label) = 67
refusal_status (Unknown item label) = 67
refusal_status (Backward item label) = 67
refusal_status (TooLong input) = 68
refusal_status CodeTooLong = 68
refusal_status (TooLarge need limit) = 69

abbrev pub status_of : Result (Unit {0}) Fault → ℕ
status_of (Ok end) = 0
status_of (Err Usage) = 64
status_of (Err (Refused refusal)) = refusal_status refusal
status_of (Err OutOfMemory) = 70
status_of (Err (Read input)) = 71
status_of (Err Write) = 72
status_of (Err (Open input)) = 73
status_of (Err Board) = 76

-- ---- the lines

abbrev pub text_kind_word : TextKind → List ℕ
text_kind_word Ascii = codes "ascii"
text_kind_word Word = codes "word"
text_kind_word Operand = codes "operand"

abbrev pub script_word : ScriptKind → List ℕ
script_word Form = codes "form"
script_word Order = codes "order"
script_word End = codes "end"

-- what the line of a capture's fault begins with; `Read` and `OutOfMemory` have other lines and never stand there
abbrev pub capture_words : PcapError → List ℕ
capture_words Magic = codes "capture: magic"
capture_words Version = codes "capture: version"
capture_words (Link link) = codes "capture: link "
capture_words (Cut at) = codes "capture: cut at "
capture_words (captures.TooLong at len) = codes "capture: too long at "
capture_words Length = codes "capture: length"
capture_words captures.Read = codes "capture: read failed"
capture_words captures.OutOfMemory = codes "capture: out of memory"

-- what the line of a refusal begins with
abbrev pub refusal_words : Refusal → List ℕ
refusal_words (BadCapture fault) = capture_words fault
refusal_words (BadScript line kind) = codes "script: line "
refusal_words (BadText line kind) = codes "text: line "
refusal_words (Twice item label) = codes "asm: item "
refusal_words (Unknown item label) = codes "asm: item "
refusal_words (Backward item label) = codes "asm: item "
refusal_words (TooLong input) = codes "too long: "
refusal_words CodeTooLong = codes "too long: "
refusal_words (TooLarge need limit) = codes "too large: need "

-- what the line of a fault begins with
abbrev pub fault_words : Fault → List ℕ
fault_words Usage = codes "usage: exec, asm, disasm, program, filter, make or live with its words"
fault_words (Refused refusal) = refusal_words refusal
fault_words OutOfMemory = codes "out of memory"
fault_words (Read input) = codes "read failed"
fault_words Write = codes "write failed"
fault_words (Open input) = codes "cannot open "
fault_words Board = codes "board refused"

-- the kind of a file that is too long, or the name of one that couldn't be opened, which is the word at its place
abbrev pub fault_name : Fault → List (List ℕ) → List ℕ
fault_name (Refused (TooLong input)) words = kind_name input.kind
fault_name (Refused CodeTooLong) words = kind_name Program
fault_name (Open input) words = slice_index_or words input.word []
fault_name fault words = []

-- two numbers, as of an item and of a label, with the words between and behind them
unfoldable pub pair_words : ℕ → List ℕ → ℕ → List ℕ → List ℕ
pair_words first between second behind = concat (decimal first ∷ between ∷ decimal second ∷ behind ∷ [])

-- the number of a refused line, and what is wrong with it
unfoldable pub line_words : ℕ → List ℕ → List ℕ
line_words line kind = concat (decimal line ∷ codes ": " ∷ kind ∷ [])

-- the most that there may be
unfoldable pub limit_words : ℕ → List ℕ
limit_words limit = concat (codes " over " ∷ decimal limit ∷ [])

-- the numbers of a capture's fault
abbrev pub capture_numbers : PcapError → List ℕ
capture_numbers (Link link) = decimal link
capture_numbers (Cut at) = decimal at
capture_numbers (captures.TooLong at len) = pair_words at (codes ": ") len []
capture_numbers fault = []

-- what the line of a refusal says behind its first words
abbrev pub refusal_numbers : Refusal → List ℕ
refusal_numbers (BadCapture fault) = capture_numbers fault
refusal_numbers (BadScript line kind) = line_words line (script_word kind)
refusal_numbers (BadText line kind) = line_words line (text_kind_word kind)
refusal_numbers (Twice item label) = pair_words item (codes ": label L") label (codes " twice")
refusal_numbers (Unknown item label) = pair_words item (codes ": unknown label L") label []
refusal_numbers (Backward item label) = pair_words item (codes ": backward label L") label []
refusal_numbers (TooLong input) = limit_words (file_limit input.kind)
refusal_numbers CodeTooLong = limit_words (file_limit Program)
refusal_numbers (TooLarge need limit) = pair_words need (codes " limit ") limit []

abbrev pub fault_numbers : Fault → List ℕ
fault_numbers (Refused refusal) = refusal_numbers refusal
fault_numbers fault = []

-- the first words of the line of a fault
unfoldable pub fault_head : Fault → List (List ℕ) → List ℕ
fault_head fault words = codes "apf_run: " ++ (fault_words fault ++ fault_name fault words)

-- the line of a fault
unfoldable pub fault_line : Fault → List (List ℕ) → List ℕ
fault_line fault words = fault_head fault words ++ (fault_numbers fault ++ codes "\n")

-- What `err` gets with an end: nothing with status 0, and else the line of the fault, or the first bytes of it where a
-- write to `err` failed.
abbrev pub Complains : List (List ℕ) → Option (List ℕ) → Option (List ℕ) → Type 0 → Result (Unit {0}) Fault → Type 0
Complains words old new failed (Ok end) = Keeps old new
Complains words old new failed (Err fault) = Appends old new (fault_line fault words) ⊎ (failed × AppendsFront old new (fault_line fault words))
