-- A word that is a number of 32 bits is the decimal text of its number.
use Rattle.std.proofs.Common.{◌≡◌, ℕ, ◌^◌, ◌<◌, Bool, true, false, cond, ltb, List, Option, Some, None, refl, sym, subst, arith}
use Rattle.std.specs.Fmt.{decimal}
use Rattle.std.proofs.lemmas.Bool.{ltb-true, lt-ltb}
use Rattle.plain_text.proofs.Numerals as numerals
use Rattle.apf_coding.specs.Reading.{IsReadAs}
use Rattle.apf_asm.specs.TextReading.{word_below, word_number}

below_cases : (bound n m : ℕ) (b : Bool) → ltb n bound ≡ b → cond b (Some n) None ≡ Some m → (m < bound) × (n ≡ m)
below_cases bound n m true test e = let same : n ≡ m = cc in (subst (λ (k : ℕ). k < bound) same (ltb-true n bound test), same)
below_cases bound n m false test e = absurd cc

pub word_below_is : (bound n m : ℕ) → word_below bound n ≡ Some m → (m < bound) × (n ≡ m)
word_below_is bound n m e = below_cases bound n m (ltb n bound) refl e

pub word_below-lt : (bound n : ℕ) → n < bound → word_below bound n ≡ Some n
word_below-lt bound n lt = rw (lt-ltb n bound lt) refl

-- a word that is a number is the number's text
pub number_of_is : (word : List ℕ) (n : ℕ) → word_number word ≡ Some n → (n < 2 ^ 32) × (word ≡ decimal n)
number_of_is word n e = let p = numerals.number_of_is 4294967295 word n (omega arith) e in ((let most = p.0 in omega arith), p.1)

-- the text of a number is that number
pub number_of-decimal : (n : ℕ) → n < 2 ^ 32 → word_number (decimal n) ≡ Some n
number_of-decimal n lt = numerals.number_of-decimal 4294967295 n (omega arith) (omega arith)

pub Reads_from : (o read : Option ℕ) → o ≡ read → IsReadAs (λ (n : ℕ). n) o read
Reads_from (Some x) read e = sym e
Reads_from None read e = sym e
