-- What is written is the line of the words.
use Rattle.std.proofs.Common.{◌≡◌, ℕ, ◌+◌, ◌<◌, true, false, List, [], ◌∷◌, ◌++◌, Result, Ok, Err, String, Global, string_bytes, IfOk, refl, sym, ap, ◌∙◌, append_assoc, arith, inl, inr}
use Rattle.std.specs.Prelude.{codes}
use Rattle.std.specs.Fmt.{decimal}
use Rattle.std.specs.List.{join_with_byte}
use Rattle.std.proofs.lemmas.Fmt.{decimal_digit}
use Rattle.std.proofs.lemmas.List.{append-nil}
use Rattle.hex.specs.Hex.{encode_lower}
use Rattle.apf_coding.specs.Instruction.{Instruction, has_second, is_counted}
use Rattle.apf_coding.specs.Spelling.{IsWidth, IsWellFormed}
use Rattle.apf_coding.specs.Names.{op_name}
use Rattle.apf_asm.specs.TextForms.{Dotted, words_of, register_word, dotted_word, second_words, counted_words}
use Rattle.apf_asm.proofs.Whole.{not_both}
use Rattle.apf_disasm.specs.Listing as listing
use Rattle.apf_disasm.specs.Printing.{line_text}

-- words with a space before each
unfoldable pub spaced : List (List ℕ) → List ℕ
spaced [] = []
spaced (word ∷ words) = 32 ∷ (word ++ spaced words)

pub join_spaced : (word : List ℕ) (words : List (List ℕ)) → join_with_byte 32 (word ∷ words) ≡ word ++ spaced words
unfolding spaced
join_spaced word [] = sym (append-nil word)
join_spaced word (next ∷ words) = ap (λ (t : List ℕ). word ++ (32 ∷ t)) (join_spaced next words)

pub spaced-append : (xs ys : List (List ℕ)) → spaced (xs ++ ys) ≡ spaced xs ++ spaced ys
unfolding spaced
spaced-append [] ys = refl
spaced-append (x ∷ xs) ys = ap (λ (t : List ℕ). 32 ∷ (x ++ t)) (spaced-append xs ys) ∙ ap (λ (t : List ℕ). 32 ∷ t) (sym (append_assoc x (spaced xs) (spaced ys)))

-- ---- an instruction

width_small : (w : ℕ) → IsWidth w → w < 10
width_small w width = elim width [ inl e ↦ omega arith | inr (inl e) ↦ omega arith | inr (inr (inl e)) ↦ omega arith | inr (inr (inr e)) ↦ omega arith ]

-- the three words that each instruction has
abbrev pub front : List ℕ → Instruction → List ℕ
front name i = name ++ (codes "." ++ (decimal i.width ++ (codes " r" ++ (decimal i.reg ++ (codes " " ++ decimal i.imm)))))

regrouped : (name width reg imm rest : List ℕ)
    → (name ++ (codes "." ++ (width ++ (codes " r" ++ (reg ++ (codes " " ++ imm)))))) ++ rest ≡ (name ++ codes "." ++ width) ++ (32 ∷ ((codes "r" ++ reg) ++ (32 ∷ (imm ++ rest))))
regrouped name width reg imm rest = simp append_assoc

-- with further words, each behind a space
front-spaced : (i : Instruction) (more : List (List ℕ)) → IsWellFormed i → front (op_name i.op) i ++ spaced more ≡ join_with_byte 32 (dotted_word i.op i.width ∷ register_word i.reg ∷ decimal i.imm ∷ more)
unfolding spaced
front-spaced i more good =
    let w : decimal i.width ≡ (48 + i.width) ∷ [] = decimal_digit i.width (width_small i.width good.width) in
    let bit = good.reg in
    let r : decimal i.reg ≡ (48 + i.reg) ∷ [] = decimal_digit i.reg (omega arith) in
    regrouped (op_name i.op) (decimal i.width) (decimal i.reg) (decimal i.imm) (spaced more)
    ∙ ap (λ (t : List ℕ). (op_name i.op ++ codes "." ++ t) ++ (32 ∷ ((codes "r" ++ decimal i.reg) ++ (32 ∷ (decimal i.imm ++ spaced more))))) w
    ∙ ap (λ (t : List ℕ). dotted_word i.op i.width ++ (32 ∷ ((codes "r" ++ t) ++ (32 ∷ (decimal i.imm ++ spaced more))))) r
    ∙ sym (join_spaced (dotted_word i.op i.width) (register_word i.reg ∷ decimal i.imm ∷ more))

pub words_alone : (i : Instruction) (name text : List ℕ) → IsWellFormed i → has_second i.op i.reg ≡ false → is_counted i.op ≡ false → name ≡ op_name i.op → text ≡ front name i
    → text ≡ join_with_byte 32 (words_of (Dotted i))
unfolding spaced
words_alone i name text good has counted named e = rw (has, counted) (e ∙ ap (λ (t : List ℕ). front t i) named ∙ sym (append-nil (front (op_name i.op) i)) ∙ front-spaced i [] good)

-- one word more, where it is all that follows
word_more : (i : Instruction) (name text word : List ℕ) → IsWellFormed i → second_words i ++ counted_words i ≡ word ∷ [] → name ≡ op_name i.op → text ≡ front name i
    → text ++ (32 ∷ word) ≡ join_with_byte 32 (words_of (Dotted i))
unfolding spaced
word_more i name text word good further named e =
    rw further (
    ap (λ (t : List ℕ). t ++ (32 ∷ word)) (e ∙ ap (λ (t : List ℕ). front t i) named)
    ∙ ap (λ (t : List ℕ). front (op_name i.op) i ++ (32 ∷ t)) (sym (append-nil word))
    ∙ front-spaced i (word ∷ []) good
    )

pub words_second : (i : Instruction) (name text : List ℕ) → IsWellFormed i → has_second i.op i.reg ≡ true → name ≡ op_name i.op → text ≡ front name i
    → text ++ (codes " " ++ decimal i.second) ≡ join_with_byte 32 (words_of (Dotted i))
words_second i name text good has = word_more i name text (decimal i.second) good (let counted = not_both i.op i.reg has in rw (has, counted) refl)

pub words_bytes : (i : Instruction) (name text digits : List ℕ) → IsWellFormed i → has_second i.op i.reg ≡ false → is_counted i.op ≡ true → digits ≡ encode_lower i.bytes → name ≡ op_name i.op → text ≡ front name i
    → text ++ (codes " x" ++ digits) ≡ join_with_byte 32 (words_of (Dotted i))
words_bytes i name text digits good has counted same = word_more i name text (codes "x" ++ digits) good (rw (has, counted) (ap (λ (t : List ℕ). (codes "x" ++ t) ∷ []) (sym same)))

-- ---- a line

-- a text in other words
pub text_is : {E : Type 0} (r : Result (String Global) E) (a b : List ℕ) → IfOk r (λ text. string_bytes text ≡ a) → a ≡ b → IfOk r (λ text. string_bytes text ≡ b)
text_is (Ok text) a b written e = written ∙ e
text_is (Err x) a b written e = tt

pub op_text : (words : List ℕ) (at : ℕ) (i : Instruction) → words ≡ join_with_byte 32 (words_of (Dotted i)) → words ++ (codes " ; at " ++ (decimal at ++ 10 ∷ [])) ≡ line_text (listing.Op at i)
unfolding line_text
op_text words at i e = ap (λ (t : List ℕ). t ++ (codes " ; at " ++ (decimal at ++ 10 ∷ []))) e ∙ whole (join_with_byte 32 (words_of (Dotted i))) (decimal at)
  where
    whole : (words at : List ℕ) → words ++ (codes " ; at " ++ (at ++ 10 ∷ [])) ≡ words ++ codes " ; at " ++ at ++ 10 ∷ []
    whole words at = simp append_assoc

pub byte_text : (at value : ℕ) → codes ".byte " ++ (decimal value ++ (codes " ; at " ++ (decimal at ++ 10 ∷ []))) ≡ line_text (listing.Byte at value)
unfolding line_text
byte_text at value = whole (decimal value) (decimal at)
  where
    whole : (value at : List ℕ) → codes ".byte " ++ (value ++ (codes " ; at " ++ (at ++ 10 ∷ []))) ≡ (codes ".byte" ++ (32 ∷ value)) ++ codes " ; at " ++ at ++ 10 ∷ []
    whole value at = simp append_assoc
