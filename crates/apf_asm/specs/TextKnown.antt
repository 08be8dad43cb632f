-- The first words that lines may have, as a list.
use Rattle.std.specs.Prelude.{◌≡◌, ◌≢◌, ◌⊎◌, ℕ, List, [], ◌∷◌, ◌++◌, codes, Contains}
use Rattle.std.specs.Fmt.{decimal}
use Rattle.apf_coding.specs.declared.instruction.Op.{Op}
use Rattle.apf_coding.specs.declared.instruction.Op.TheVariants.{Ext}
use Rattle.apf_coding.specs.Spelling.{IsWidth}
use Rattle.apf_coding.specs.Names.{op_name}
use Rattle.apf_asm.specs.TextForms.{IsWord, dotted_word}

-- the names of the extended instructions, and that of a byte
abbrev pub other_names : List (List ℕ)
other_names = codes "ldm" ∷ codes "stm" ∷ codes "not" ∷ codes "neg" ∷ codes "swap" ∷ codes "move" ∷ codes ".byte" ∷ []

-- an opcode's name other than ext, or another name
abbrev pub IsName : List ℕ → Type 0
IsName word = ((op : Op) × (op ≢ Ext) × (word ≡ op_name op)) ⊎ Contains other_names word

-- `L`, a number and a colon
abbrev pub IsLabel : List ℕ → Type 0
IsLabel word = (n : ℕ) × IsWord n × (word ≡ codes "L" ++ decimal n ++ codes ":")

-- an opcode's name, a dot and a width
abbrev pub IsDotted : List ℕ → Type 0
IsDotted word = (op : Op) × (width : ℕ) × IsWidth width × (word ≡ dotted_word op width)
