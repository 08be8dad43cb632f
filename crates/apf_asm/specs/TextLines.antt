-- Assembler text as lines, and lines as words: which text stands for which items, and which line is refused.
use Rattle.std.specs.Prelude.{◌≡◌, ℕ, ◌+◌, ◌&&◌, ◌==◌, nat_le, not, Bool, List, [], ◌∷◌, ◌++◌, length, filter, Option, Some, None}
use Rattle.std.specs.List.{AllPass, slice_split, before_first}
use Rattle.std.specs.Option.{option_to_list}
use Rattle.apf_asm.specs.declared.item.Item.{Item}
use Rattle.apf_asm.specs.declared.text_error.TextKind.{TextKind}
use Rattle.apf_asm.specs.declared.text_error.TextKind.TheVariants.{Ascii, Word, Operand}
use Rattle.apf_asm.specs.TextForms.{Denotes, IsKnown}
use Rattle.plain_text.specs.Lines.{lines_of}

-- ---- a line

-- the bytes that may stand in a line
abbrev pub is_printable : ℕ → Bool
is_printable b = nat_le 32 b && nat_le b 126

-- what stands before the comment
abbrev pub without_comment : List ℕ → List ℕ
without_comment line = before_first (λ b. b == 59) line

-- the pieces between spaces that aren't empty
abbrev pub words_in : List ℕ → List (List ℕ)
words_in line = filter (λ word. not (length word == 0)) (slice_split (λ b. b == 32) (without_comment line))

-- no words stand for nothing
abbrev pub Stands : List (List ℕ) → Option Item → Type 0
Stands words None = words ≡ []
Stands words (Some item) = Denotes words item

-- the line stands for an item, or for nothing
pub record IsRead (line : List ℕ) (found : Option Item) : Type 0 where
  pub printable : AllPass is_printable line
  pub stands : Stands (words_in line) found

-- the words of a line that doesn't stand for an item, by its first word
abbrev pub AreRefused : List (List ℕ) → TextKind → Type 0
AreRefused words Ascii = ⊥
AreRefused [] Word = ⊥
AreRefused (word ∷ operands) Word = ¬ IsKnown word
AreRefused [] Operand = ⊥
AreRefused (word ∷ operands) Operand = IsKnown word × ((item : Item) → ¬ Denotes (word ∷ operands) item)

-- the line is refused, for the first of three causes
abbrev pub IsRefused : List ℕ → TextKind → Type 0
IsRefused line Ascii = ¬ AllPass is_printable line
IsRefused line Word = AllPass is_printable line × AreRefused (words_in line) Word
IsRefused line Operand = AllPass is_printable line × AreRefused (words_in line) Operand

-- ---- a text

-- each line stands for its item or for nothing
abbrev pub AreRead : List (List ℕ) → List Item → Type 0
AreRead [] items = items ≡ []
AreRead (line ∷ lines) items = (found : Option Item) × (rest : List Item) × IsRead line found × AreRead lines rest × (items ≡ option_to_list found ++ rest)

-- the text stands for the items
abbrev pub TextReads : List ℕ → List Item → Type 0
TextReads text items = AreRead (lines_of text) items

-- a line of the text, counted from 1, is refused, and none before it is
pub record TextRefuses (text : List ℕ) (number : ℕ) (kind : TextKind) : Type 0 where
  pub before : List (List ℕ)
  pub line : List ℕ
  pub after : List (List ℕ)
  pub lines_are : lines_of text ≡ before ++ line ∷ after
  pub items : List Item
  pub read : AreRead before items
  pub refused : IsRefused line kind
  pub number_is : number ≡ length before + 1
