-- The words of a command line: the command's name, and the words that follow it.
use Rattle.std.specs.Prelude.{ℕ, Bool, false, not, ◌==◌, List, [], ◌∷◌, find, length, map, codes, String, string_bytes, Option, None, Some, option_and_then, option_map, if◌then◌else◌}
use Rattle.std.specs.List.{list_all}
use Rattle.std.specs.Str.{bytes_eq}
use Rattle.std.specs.declared.alloc.Global.{Global}

-- the bytes of each word
abbrev pub texts : List (String Global) → List (List ℕ)
texts words = map string_bytes words

-- the words that follow a command's name
pub data Further : Type 0 where
  one : (a : List ℕ) → Further
  two : (a b : List ℕ) → Further
  three : (a b c : List ℕ) → Further
  four : (a b c d : List ℕ) → Further

-- a command's name and the words that follow it
pub record Line : Type 0 where
  pub name : List ℕ
  pub further : Further

-- ---- the commands

-- a command's name, and how many words follow it
pub record Usage : Type 0 where
  pub name : List ℕ
  pub words : ℕ

abbrev pub usage : List ℕ → ℕ → Usage
usage name words = record { name = name; words = words }

abbrev pub usages : List Usage
usages =
    usage (codes "exec") 3
    ∷ usage (codes "asm") 1
    ∷ usage (codes "disasm") 1
    ∷ usage (codes "program") 4
    ∷ usage (codes "filter") 2
    ∷ usage (codes "make") 2
    ∷ usage (codes "live") 3
    ∷ []

-- the command of this name
abbrev pub usage_of : List ℕ → Option Usage
usage_of name = find (λ u. bytes_eq u.name name) usages

-- ---- the split

-- the words, where there are one to four
abbrev pub further_of : List (List ℕ) → Option Further
further_of (a ∷ []) = Some (one a)
further_of (a ∷ b ∷ []) = Some (two a b)
further_of (a ∷ b ∷ c ∷ []) = Some (three a b c)
further_of (a ∷ b ∷ c ∷ d ∷ []) = Some (four a b c d)
further_of words = None

abbrev pub named : List ℕ → Further → Line
named name further = record { name = name; further = further }

-- the name and the words, where there are n of them
abbrev pub line_of : List ℕ → ℕ → List (List ℕ) → Option Line
line_of name n words = if length words == n then option_map (named name) (further_of words) else None

-- the word isn't empty and doesn't begin with a dash
abbrev pub is_plain : List ℕ → Bool
is_plain [] = false
is_plain (first ∷ rest) = not (first == 45)

-- the command that the words name, where no further word is empty or begins with a dash
abbrev pub split_of : List (List ℕ) → Option Line
split_of [] = None
split_of (name ∷ words) = if list_all is_plain words then option_and_then (λ u. line_of name u.words words) (usage_of name) else None
