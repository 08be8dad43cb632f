-- A listing has at most 26 bytes for a byte of code.
use Rattle.std.proofs.Common.{◌≡◌, ℕ, ◌+◌, ◌*◌, ◌^◌, ◌<◌, ◌≤◌, Bool, true, false, cond, List, [], ◌∷◌, ◌++◌, length, refl, ap, subst, arith, inl, inr}
use Rattle.std.specs.Prelude.{codes}
use Rattle.std.specs.Fmt.{decimal}
use Rattle.std.specs.List.{AllByRecursion, flat_map, join_with_byte}
use Rattle.std.proofs.lemmas.Fmt.{length-decimal-le}
use Rattle.std.proofs.lemmas.List.{length-append, length-drop}
use Rattle.hex.specs.Hex.{lower_digits}
use Rattle.hex.proofs.HexLemmas.{length-encode_with}
use Rattle.apf_coding.specs.declared.instruction.Op.{Op}
use Rattle.apf_coding.specs.declared.instruction.Op.TheVariants.{Ldb, Ldh, Ldw, Ldbx, Ldhx, Ldwx, Add, Mul, Div, And, Or, Sh, Li, Jmp, Jeq, Jne, Jgt, Jlt, Jset, Jnebs, Ext, Lddw, Stdw}
use Rattle.apf_coding.specs.Words.{big_endian}
use Rattle.apf_coding.specs.Instruction.{Instruction, has_second, is_counted}
use Rattle.apf_coding.specs.Spelling.{IsWidth, IsWellFormed, spelling, first_byte, second_of, counted_of}
use Rattle.apf_coding.specs.Names.{op_name}
use Rattle.apf_coding.proofs.Numbers.{length-big_endian}
use Rattle.apf_disasm.specs.Listing as listing
use Rattle.apf_disasm.specs.Listing.{ListingEntry, IsListing}
use Rattle.apf_disasm.specs.Printing.{line_text, listing_text}
use Rattle.apf_disasm.proofs.Entries.{IsGood}
use Rattle.apf_disasm.proofs.Layouts.{bytes_of, listed_bytes}
use Rattle.apf_disasm.proofs.Parts.{spaced, join_spaced, spaced-append}
use Rattle.apf_asm.specs.TextForms.{Dotted, words_of, register_word, dotted_word, hex_word, second_words, counted_words}
use Rattle.apf_asm.proofs.Whole.{not_both}
use Rattle.apf_base.specs.Limits.{program_limit}

-- ---- the parts

name_short : (op : Op) → is_counted op ≡ false → length (op_name op) ≤ 4
name_short Ldb t = omega arith
name_short Ldh t = omega arith
name_short Ldw t = omega arith
name_short Ldbx t = omega arith
name_short Ldhx t = omega arith
name_short Ldwx t = omega arith
name_short Add t = omega arith
name_short Mul t = omega arith
name_short Div t = omega arith
name_short And t = omega arith
name_short Or t = omega arith
name_short Sh t = omega arith
name_short Li t = omega arith
name_short Jmp t = omega arith
name_short Jeq t = omega arith
name_short Jne t = omega arith
name_short Jgt t = omega arith
name_short Jlt t = omega arith
name_short Jset t = omega arith
name_short Jnebs t = absurd cc
name_short Ext t = omega arith
name_short Lddw t = omega arith
name_short Stdw t = omega arith

counted_name : (op : Op) → is_counted op ≡ true → length (op_name op) ≤ 5
counted_name Ldb t = absurd cc
counted_name Ldh t = absurd cc
counted_name Ldw t = absurd cc
counted_name Ldbx t = absurd cc
counted_name Ldhx t = absurd cc
counted_name Ldwx t = absurd cc
counted_name Add t = absurd cc
counted_name Mul t = absurd cc
counted_name Div t = absurd cc
counted_name And t = absurd cc
counted_name Or t = absurd cc
counted_name Sh t = absurd cc
counted_name Li t = absurd cc
counted_name Jmp t = absurd cc
counted_name Jeq t = absurd cc
counted_name Jne t = absurd cc
counted_name Jgt t = absurd cc
counted_name Jlt t = absurd cc
counted_name Jset t = absurd cc
counted_name Jnebs t = omega arith
counted_name Ext t = absurd cc
counted_name Lddw t = absurd cc
counted_name Stdw t = absurd cc

-- the digits of a number of so many bytes
number_length : (n w : ℕ) → IsWidth w → n < 256 ^ w → length (decimal n) ≤ 1 + 5 * w
number_length n w width lt = elim width [
  | inl p ↦ let small : n < 256 ^ 0 = subst (λ (k : ℕ). n < 256 ^ k) p lt in omega (arith, length-decimal-le 1 n (omega arith) (omega arith) (omega arith))
  | inr (inl p) ↦ let small : n < 256 ^ 1 = subst (λ (k : ℕ). n < 256 ^ k) p lt in omega (arith, length-decimal-le 3 n (omega arith) (omega arith) (omega arith))
  | inr (inr (inl p)) ↦ let small : n < 256 ^ 2 = subst (λ (k : ℕ). n < 256 ^ k) p lt in omega (arith, length-decimal-le 5 n (omega arith) (omega arith) (omega arith))
  | inr (inr (inr p)) ↦ let small : n < 256 ^ 4 = subst (λ (k : ℕ). n < 256 ^ k) p lt in omega (arith, length-decimal-le 10 n (omega arith) (omega arith) (omega arith))
]

second_length : (b : Bool) (second w : ℕ) → IsWidth w → second < 256 ^ w → length (spaced (cond b (decimal second ∷ []) [])) ≤ cond b (2 + 5 * w) 0
unfolding spaced
second_length true second w width lt = let digits = number_length second w width lt in omega (arith, length-append (decimal second) [])
second_length false second w width lt = omega arith

counted_length : (b : Bool) (bytes : List ℕ) → (b ≡ false → bytes ≡ []) → length (spaced (cond b (hex_word bytes ∷ []) [])) ≤ cond b (2 + 2 * length bytes) 0
unfolding spaced
counted_length true bytes none = let digits = length-encode_with lower_digits bytes in omega (arith, length-append (hex_word bytes) [])
counted_length false bytes none = omega arith

-- ---- the bytes

spelling_length : (i : Instruction) → length (spelling i) ≡ 1 + i.width + cond (has_second i.op i.reg) i.width 0 + cond (is_counted i.op) (i.width + length i.bytes) 0
spelling_length i =
    let second : length (second_of i) ≡ cond (has_second i.op i.reg) i.width 0 = told (has_second i.op i.reg) in
    let counted : length (counted_of i) ≡ cond (is_counted i.op) (i.width + length i.bytes) 0 = tailed (is_counted i.op) in
    let imm = length-big_endian i.width i.imm in
    omega (arith, length-append (first_byte i ∷ big_endian i.width i.imm ++ second_of i) (counted_of i), length-append (first_byte i ∷ big_endian i.width i.imm) (second_of i))
  where
    told : (b : Bool) → length (cond b (big_endian i.width i.second) []) ≡ cond b i.width 0
    told true = length-big_endian i.width i.second
    told false = refl

    tailed : (b : Bool) → length (cond b (big_endian i.width (length i.bytes) ++ i.bytes) []) ≡ cond b (i.width + length i.bytes) 0
    tailed true = let count = length-big_endian i.width (length i.bytes) in omega (arith, length-append (big_endian i.width (length i.bytes)) i.bytes)
    tailed false = refl

-- ---- a line

-- the words of an instruction by their lengths
words_sum : (i : Instruction)
    → length (join_with_byte 32 (words_of (Dotted i))) ≡ length (op_name i.op) + length (decimal i.imm) + length (spaced (second_words i)) + length (spaced (counted_words i)) + 6
unfolding spaced
words_sum i =
    let rest : List (List ℕ) = second_words i ++ counted_words i in
    let joined = ap length (join_spaced (dotted_word i.op i.width) (register_word i.reg ∷ decimal i.imm ∷ rest)) in
    let parts = ap length (spaced-append (second_words i) (counted_words i)) in
    omega (
      arith,
      length-append (dotted_word i.op i.width) (spaced (register_word i.reg ∷ decimal i.imm ∷ rest)),
      length-append (op_name i.op ++ codes ".") ((48 + i.width) ∷ []),
      length-append (op_name i.op) (codes "."),
      length-append (decimal i.imm) (spaced rest),
      length-append (spaced (second_words i)) (spaced (counted_words i)),
    )

-- at most 26 bytes of text for a byte of code, by whether there is a second immediate and counted bytes
fits_26 : (has count : Bool) (name w n s b size bytes : ℕ) → (has ≡ true → count ≡ false) → (count ≡ false → name ≤ 4) → name ≤ 5 → n ≤ 1 + 5 * w → s ≤ cond has (2 + 5 * w) 0 → b ≤ cond count (2 + 2 * bytes) 0
    → size ≡ 1 + w + cond has w 0 + cond count (w + bytes) 0 → name + n + s + b + 18 ≤ 26 * size
fits_26 true true name w n s b size bytes not_both short five nl sl bl e = absurd (let no = not_both refl in let clash : true ≡ false = no in absurd cc)
fits_26 true false name w n s b size bytes not_both short five nl sl bl e = let four = short refl in omega arith
fits_26 false true name w n s b size bytes not_both short five nl sl bl e = omega arith
fits_26 false false name w n s b size bytes not_both short five nl sl bl e = let four = short refl in omega arith

five : (op : Op) (b : Bool) → is_counted op ≡ b → length (op_name op) ≤ 5
five op true e = counted_name op e
five op false e = let four = name_short op e in omega arith

words_length : (i : Instruction) → IsWellFormed i → length (join_with_byte 32 (words_of (Dotted i))) + 12 ≤ 26 * length (spelling i)
words_length i good =
    let width = good.width in
    let sum = words_sum i in
    let bound = fits_26 (has_second i.op i.reg) (is_counted i.op) (length (op_name i.op)) i.width (length (decimal i.imm)) (length (spaced (second_words i))) (length (spaced (counted_words i))) (length (spelling i)) (length i.bytes)
    (not_both i.op i.reg) (name_short i.op) (five i.op (is_counted i.op) refl) (number_length i.imm i.width width good.imm)
    (second_length (has_second i.op i.reg) i.second i.width width good.second) (counted_length (is_counted i.op) i.bytes good.no_bytes) (spelling_length i) in
    omega arith

-- the comment has at most 12 bytes
line_length : (words : List ℕ) (at : ℕ) → at < 100000 → length (words ++ codes " ; at " ++ decimal at ++ 10 ∷ []) ≤ length words + 12
line_length words at lt =
    let digits = length-decimal-le 5 at (omega arith) (omega arith) (omega arith) in
    omega (arith, length-append (words ++ codes " ; at " ++ decimal at) (10 ∷ []), length-append (words ++ codes " ; at ") (decimal at), length-append words (codes " ; at "))

entry_length : (size : ℕ) (e : ListingEntry) → size ≤ 100000 → IsGood size e → length (line_text e) ≤ 26 * length (bytes_of e)
unfolding line_text
entry_length size (listing.Op at i) long good =
    let place = good.place in
    let line = line_length (join_with_byte 32 (words_of (Dotted i))) at (omega arith) in
    let words = words_length i good.allowed.0 in
    omega arith
entry_length size (listing.Byte at value) long good =
    let place = good.place in
    let byte : value < 256 = good.allowed in
    let line = line_length (codes ".byte" ++ 32 ∷ decimal value) at (omega arith) in
    let digits = length-decimal-le 3 value (omega arith) (omega arith) (omega arith) in
    omega arith

-- ---- the whole

entries_length : (size : ℕ) (entries : List ListingEntry) → size ≤ 100000 → AllByRecursion (IsGood size) entries → length (listing_text entries) ≤ 26 * length (flat_map bytes_of entries)
entries_length size [] long good = omega arith
entries_length size (e ∷ rest) long good =
    let here = entry_length size e long good.0 in
    let more = entries_length size rest long good.1 in
    omega (arith, length-append (line_text e) (listing_text rest), length-append (bytes_of e) (flat_map bytes_of rest))

pub listing_length : (code : List ℕ) (entries : List ListingEntry) → length code ≤ program_limit → IsListing code entries → AllByRecursion (IsGood (length code)) entries → length (listing_text entries) ≤ 26 * length code
listing_length code entries long l good =
    let bound = entries_length (length code) entries (omega arith) good in
    let all = ap length (listed_bytes code 0 entries l) in
    omega (arith, length-drop 0 code)
