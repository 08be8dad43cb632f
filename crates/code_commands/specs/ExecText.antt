-- The lines that `exec` writes.
use Rattle.std.specs.Prelude.{ℕ, ◌+◌, Bool, true, false, List, [], ◌∷◌, ◌++◌, codes, replicate}
use Rattle.std.specs.Fmt.{decimal}
use Rattle.hex.specs.Hex.{encode_lower}
use Rattle.apf_coding.specs.declared.machine.Outcome.{Outcome}
use Rattle.apf_coding.specs.declared.machine.FaultKind.{FaultKind}
use Rattle.apf_coding.specs.declared.machine.FaultKind.TheVariants.{Place, Opcode, Cut, Extended, Frame, Memory, Division, Compare}
use Rattle.apf_coding.specs.declared.machine.Why.{Why}
use Rattle.apf_coding.specs.declared.machine.Why.TheVariants.{Short, Reached, Budget, Fault}
use Rattle.apf_coding.specs.Verdicts.{verdict_word}
use Rattle.apf_coding.specs.Run.{run}
use Rattle.apf_base.specs.Limits.{memory_size}

abbrev pub fault_kind_word : FaultKind → List ℕ
fault_kind_word Place = codes "place"
fault_kind_word Opcode = codes "opcode"
fault_kind_word Cut = codes "cut"
fault_kind_word Extended = codes "extended"
fault_kind_word Frame = codes "frame"
fault_kind_word Memory = codes "memory"
fault_kind_word Division = codes "division"
fault_kind_word Compare = codes "compare"

-- why a run ended
abbrev pub why_words : Why → List ℕ
why_words Short = codes "short"
why_words Reached = codes "reached"
why_words Budget = codes "budget"
why_words (Fault kind at) = codes "fault " ++ fault_kind_word kind ++ codes " at " ++ decimal at

-- the line of a frame, by its number and how the run on it ended
unfoldable pub exec_frame_line : ℕ → Outcome → List ℕ
exec_frame_line number outcome =
    codes "frame " ++ decimal number ++ codes " " ++ verdict_word outcome.verdict ++ codes " " ++ why_words outcome.why
    ++ codes " steps " ++ decimal outcome.steps ++ codes "\n"

-- the line of a memory, two hexadecimal digits a byte
unfoldable pub memory_line : List ℕ → List ℕ
memory_line memory = codes "memory " ++ encode_lower memory ++ codes "\n"

-- behind the frames of a capture without a fault the line of the last memory
abbrev pub closing : Bool → List ℕ → List (List ℕ)
closing true memory = memory_line memory ∷ []
closing false memory = []

-- The lines of the frames from this number on, each with the memory that the frame before left, and what stands behind
-- them.
abbrev pub lines_from : Bool → List ℕ → ℕ → ℕ → List ℕ → List (List ℕ) → List (List ℕ)
lines_from whole program age number memory [] = closing whole memory
lines_from whole program age number memory (frame ∷ frames) =
    let done = run program memory frame age in
    exec_frame_line number done.outcome ∷ lines_from whole program age (number + 1) done.memory frames

-- a program over frames: frames count from 1, and the memory begins with 128 zeros
abbrev pub exec_lines : Bool → List ℕ → List (List ℕ) → ℕ → List (List ℕ)
exec_lines whole program frames age = lines_from whole program age 1 (replicate memory_size 0) frames
