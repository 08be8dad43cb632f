-- A line of words, one space apart, and a comment is cut into these words again.
use Rattle.std.proofs.Common.{◌≡◌, ℕ, zero, suc, ◌+◌, ◌/◌, ◌%◌, ◌^◌, ◌<◌, Bool, true, false, ◌&&◌, not, cond, eqb, leb, List, [], ◌∷◌, ◌++◌, length, slice_index, Some, refl, sym, ap, ◌∙◌, append_assoc, arith, inl, inr}
use Rattle.std.specs.Prelude.{codes, filter, ℤ, pos, negsuc, FitsSigned}
use Rattle.std.specs.Char.{is_ascii_digit}
use Rattle.std.specs.Int.{w32}
use Rattle.std.specs.Fmt.{decimal, signed_decimal}
use Rattle.std.specs.List.{list_all, AllByRecursion, slice_split, position_or_len, join_with_byte}
use Rattle.std.proofs.lemmas.Bool.{and_parts, and_from, agree_below_at, ne_eqb}
use Rattle.std.proofs.lemmas.Bool.Decides.{nat_tests}
use Rattle.std.proofs.lemmas.Fmt.{decimal_nonempty, digits_decimal}
use Rattle.std.proofs.lemmas.List.{length-append}
use Rattle.std.proofs.lemmas.List.Folds.{list_all-append}
use Rattle.std.proofs.lemmas.List.Sums.{AllPass-from_list_all}
use Rattle.hex.specs.Hex.{encode_with, encode_lower, lower_digits, IsBytes}
use Rattle.apf_coding.specs.declared.instruction.Op.{Op}
use Rattle.apf_coding.specs.declared.instruction.Op.TheVariants.{Ldb, Ldh, Ldw, Ldbx, Ldhx, Ldwx, Add, Mul, Div, And, Or, Sh, Li, Jmp, Jeq, Jne, Jgt, Jlt, Jset, Jnebs, Ext, Lddw, Stdw}
use Rattle.apf_coding.specs.Instruction.{has_second, is_counted}
use Rattle.apf_coding.specs.Spelling.{IsWidth}
use Rattle.apf_coding.specs.Names.{op_name}
use Rattle.apf_asm.specs.declared.item.Target.{Target}
use Rattle.apf_asm.specs.declared.item.Target.TheVariants as targets
use Rattle.apf_asm.specs.TextForms.{Form, Label, Load, Arithmetic, ArithmeticR1, Shift, ShiftR1, Signed, LoadSlot, StoreSlot, Complement, Negate, Swap, Move, Jump, Compare, CompareR1, CompareBytes, Dotted, Byte, register_word, target_word, hex_word, dotted_word, second_words, counted_words, words_of, item_of, IsTarget, IsAllowed}
use Rattle.plain_text.specs.Lines.{lines_of}
use Rattle.apf_asm.specs.TextLines.{is_printable, without_comment, words_in, IsRead}
use Rattle.plain_text.proofs.Numerals.{own}
use Rattle.apf_asm.proofs.TextItems.{word_from}

-- ---- bytes of words

-- printable, no space and no semicolon
abbrev is_word_byte : ℕ → Bool
is_word_byte b = leb 33 b && (leb b 126 && not (eqb b 59))

pub record IsPlain (word : List ℕ) : Type 0 where
  pub some : 0 < length word
  pub plain : list_all is_word_byte word ≡ true

weaker : (p q : ℕ → Bool) → ((b : ℕ) → p b ≡ true → q b ≡ true) → (xs : List ℕ) → list_all p xs ≡ true → list_all q xs ≡ true
weaker p q more [] e = refl
weaker p q more (b ∷ xs) e =
    let parts = and_parts (p b) (list_all p xs) e in
    and_from (q b) (list_all q xs) (more b parts.0) (weaker p q more xs parts.1)

digit_byte : (b : ℕ) → is_ascii_digit b ≡ true → is_word_byte b ≡ true
digit_byte b e = grind (arith, nat_tests)

no_space : (b : ℕ) → is_word_byte b ≡ true → not (eqb b 32) ≡ true
no_space b e = grind (arith, nat_tests)

no_semicolon : (b : ℕ) → is_word_byte b ≡ true → not (eqb b 59) ≡ true
no_semicolon b e = grind (arith, nat_tests)

printable_byte : (b : ℕ) → is_word_byte b ≡ true → is_printable b ≡ true
printable_byte b e = grind (arith, nat_tests)

printable_no_feed : (b : ℕ) → is_printable b ≡ true → eqb b 10 ≡ false
printable_no_feed b e = grind (arith, nat_tests)

plain-append : (a b : List ℕ) → IsPlain a → list_all is_word_byte b ≡ true → IsPlain (a ++ b)
plain-append a b p q =
    let some = p.some in
    record { some = omega (arith, length-append a b); plain = list_all-append is_word_byte a b ∙ and_from _ _ p.plain q }

-- ---- words are plain

digits_plain : (n : ℕ) → n < 2 ^ 64 → IsPlain (decimal n)
digits_plain n small = record { some = decimal_nonempty n small; plain = weaker is_ascii_digit is_word_byte digit_byte (decimal n) (digits_decimal own n small) }

word_plain : (n : ℕ) → n < 2 ^ 32 → IsPlain (decimal n)
word_plain n small = digits_plain n (omega arith)

signed_plain : (z : ℤ) → FitsSigned w32 z → IsPlain (signed_decimal z)
signed_plain (pos n) fits = let small : n < 2 ^ 31 = fits.sfits in digits_plain n (omega arith)
signed_plain (negsuc n) fits =
    let small : n < 2 ^ 31 = fits.sfits in
    plain-append (45 ∷ []) (decimal (suc n)) (record { some = omega arith; plain = refl }) (digits_plain (suc n) (omega arith)).plain

plain_parts : (op : Op) → (0 < length (op_name op)) × (list_all is_word_byte (op_name op) ≡ true)
plain_parts Ldb = (omega arith, refl)
plain_parts Ldh = (omega arith, refl)
plain_parts Ldw = (omega arith, refl)
plain_parts Ldbx = (omega arith, refl)
plain_parts Ldhx = (omega arith, refl)
plain_parts Ldwx = (omega arith, refl)
plain_parts Add = (omega arith, refl)
plain_parts Mul = (omega arith, refl)
plain_parts Div = (omega arith, refl)
plain_parts And = (omega arith, refl)
plain_parts Or = (omega arith, refl)
plain_parts Sh = (omega arith, refl)
plain_parts Li = (omega arith, refl)
plain_parts Jmp = (omega arith, refl)
plain_parts Jeq = (omega arith, refl)
plain_parts Jne = (omega arith, refl)
plain_parts Jgt = (omega arith, refl)
plain_parts Jlt = (omega arith, refl)
plain_parts Jset = (omega arith, refl)
plain_parts Jnebs = (omega arith, refl)
plain_parts Ext = (omega arith, refl)
plain_parts Lddw = (omega arith, refl)
plain_parts Stdw = (omega arith, refl)

name_plain : (op : Op) → IsPlain (op_name op)
name_plain op = let parts = plain_parts op in record { some = parts.0; plain = parts.1 }

register_plain : (reg : ℕ) → reg < 2 → IsPlain (register_word reg)
register_plain zero bit = record { some = omega arith; plain = refl }
register_plain (suc zero) bit = record { some = omega arith; plain = refl }
register_plain (suc (suc n)) bit = absurd (omega arith)

target_plain : (to : Target) → IsTarget to → IsPlain (target_word to)
target_plain (targets.Label n) small = plain-append (76 ∷ []) (decimal n) (record { some = omega arith; plain = refl }) (word_plain n small).plain
target_plain targets.Pass small = record { some = omega arith; plain = refl }
target_plain targets.Drop small = record { some = omega arith; plain = refl }

label_plain : (n : ℕ) → n < 2 ^ 32 → IsPlain (codes "L" ++ decimal n ++ codes ":")
label_plain n small = plain-append (76 ∷ decimal n) (58 ∷ []) (target_plain (targets.Label n) small) refl

table_plain : (v : ℕ) → v < 16 → is_word_byte (slice_index lower_digits v) ≡ true
table_plain v lt = agree_below_at (λ x. is_word_byte (slice_index lower_digits x)) (λ _. true) 16 v refl lt

encode_plain : (bytes : List ℕ) → IsBytes bytes → list_all is_word_byte (encode_lower bytes) ≡ true
unfolding encode_with
encode_plain [] fits = refl
encode_plain (b ∷ rest) fits =
    let byte : b < 256 = fits 0 in
    and_from _ _ (table_plain (b / 16) (omega arith)) (and_from _ _ (table_plain (b % 16) (omega arith)) (encode_plain rest (λ k. fits (suc k))))

hex_plain : (bytes : List ℕ) → IsBytes bytes → IsPlain (hex_word bytes)
hex_plain bytes fits = plain-append (120 ∷ []) (encode_lower bytes) (record { some = omega arith; plain = refl }) (encode_plain bytes fits)

width_plain : (w : ℕ) → IsWidth w → list_all is_word_byte ((48 + w) ∷ []) ≡ true
width_plain w width = elim width [
  | inl e ↦ ap (λ (k : ℕ). list_all is_word_byte ((48 + k) ∷ [])) e
  | inr (inl e) ↦ ap (λ (k : ℕ). list_all is_word_byte ((48 + k) ∷ [])) e
  | inr (inr (inl e)) ↦ ap (λ (k : ℕ). list_all is_word_byte ((48 + k) ∷ [])) e
  | inr (inr (inr e)) ↦ ap (λ (k : ℕ). list_all is_word_byte ((48 + k) ∷ [])) e
]

dotted_plain : (op : Op) (w : ℕ) → IsWidth w → IsPlain (dotted_word op w)
dotted_plain op w width = plain-append (op_name op ++ codes ".") ((48 + w) ∷ []) (plain-append (op_name op) (codes ".") (name_plain op) refl) (width_plain w width)

pub digits_printable : (n : ℕ) → n < 2 ^ 32 → list_all is_printable (decimal n) ≡ true
digits_printable n small = weaker is_word_byte is_printable printable_byte (decimal n) (word_plain n small).plain

-- ---- the words of every form

if_plain : (b : Bool) (word : List ℕ) → IsPlain word → AllByRecursion IsPlain (cond b (word ∷ []) [])
if_plain true word p = (p, tt)
if_plain false word p = tt

all-append : (xs ys : List (List ℕ)) → AllByRecursion IsPlain xs → AllByRecursion IsPlain ys → AllByRecursion IsPlain (xs ++ ys)
all-append [] ys p q = q
all-append (x ∷ xs) ys p q = (p.0, all-append xs ys p.1 q)

pub form_plain : (f : Form) → IsAllowed f → AllByRecursion IsPlain (words_of f)
form_plain (Label n) a = (label_plain n a, tt)
form_plain (Load op reg n) a = (name_plain op, (register_plain reg a.1, (word_plain n a.2, tt)))
form_plain (Arithmetic op n) a = (name_plain op, (word_plain n a.1, tt))
form_plain (ArithmeticR1 op) a = (name_plain op, (register_plain 1 (omega arith), tt))
form_plain (Shift z) a = (name_plain Sh, (signed_plain z a, tt))
form_plain ShiftR1 a = (name_plain Sh, (register_plain 1 (omega arith), tt))
form_plain (Signed op reg z) a = (name_plain op, (register_plain reg a.1, (signed_plain z a.2, tt)))
form_plain (LoadSlot reg slot) a = let small = a.1 in (record { some = omega arith; plain = refl }, (register_plain reg a.0, (word_plain slot (omega arith), tt)))
form_plain (StoreSlot reg slot) a = let small = a.1 in (record { some = omega arith; plain = refl }, (register_plain reg a.0, (word_plain slot (omega arith), tt)))
form_plain (Complement reg) a = (record { some = omega arith; plain = refl }, (register_plain reg a, tt))
form_plain (Negate reg) a = (record { some = omega arith; plain = refl }, (register_plain reg a, tt))
form_plain Swap a = (record { some = omega arith; plain = refl }, tt)
form_plain (Move reg) a = (record { some = omega arith; plain = refl }, (register_plain reg a, tt))
form_plain (Jump to) a = (name_plain Jmp, (target_plain to a, tt))
form_plain (Compare op n to) a = (name_plain op, (word_plain n a.1, (target_plain to a.2, tt)))
form_plain (CompareR1 op to) a = (name_plain op, (register_plain 1 (omega arith), (target_plain to a.1, tt)))
form_plain (CompareBytes bytes to) a = (name_plain Jnebs, (hex_plain bytes a.0, (target_plain to a.3, tt)))
form_plain (Dotted i) a =
    let good = a.0 in (
      dotted_plain i.op i.width good.width,
      (
        register_plain i.reg good.reg,
        (
          word_plain i.imm (word_from i.imm i.width good.width good.imm),
          all-append (second_words i) (counted_words i)
              (if_plain (has_second i.op i.reg) (decimal i.second) (word_plain i.second (word_from i.second i.width good.width good.second)))
              (if_plain (is_counted i.op) (hex_word i.bytes) (hex_plain i.bytes a.1)),
        ),
      ),
    )
form_plain (Byte b) a = let small = a in (record { some = omega arith; plain = refl }, (word_plain b (omega arith), tt))

form_some : (f : Form) → 0 < length (words_of f)
form_some (Label n) = omega arith
form_some (Load op reg n) = omega arith
form_some (Arithmetic op n) = omega arith
form_some (ArithmeticR1 op) = omega arith
form_some (Shift z) = omega arith
form_some ShiftR1 = omega arith
form_some (Signed op reg z) = omega arith
form_some (LoadSlot reg slot) = omega arith
form_some (StoreSlot reg slot) = omega arith
form_some (Complement reg) = omega arith
form_some (Negate reg) = omega arith
form_some Swap = omega arith
form_some (Move reg) = omega arith
form_some (Jump to) = omega arith
form_some (Compare op n to) = omega arith
form_some (CompareR1 op to) = omega arith
form_some (CompareBytes bytes to) = omega arith
form_some (Dotted i) = omega arith
form_some (Byte b) = omega arith

-- ---- a line is cut into its words

cut_comment : (xs ys : List ℕ) → list_all (λ b. not (eqb b 59)) xs ≡ true → without_comment (xs ++ 59 ∷ ys) ≡ xs
cut_comment [] ys e = refl
cut_comment (x ∷ xs) ys e =
    let parts = and_parts (not (eqb x 59)) (list_all (λ b. not (eqb b 59)) xs) e in
    let next : 1 + position_or_len (λ b. eqb b 59) (xs ++ 59 ∷ ys) ≡ suc (position_or_len (λ b. eqb b 59) (xs ++ 59 ∷ ys)) = omega arith in
    rw (parts.0, next) (ap (λ (t : List ℕ). x ∷ t) (cut_comment xs ys parts.1))

split_word : (word rest : List ℕ) → list_all (λ b. not (eqb b 32)) word ≡ true → slice_split (λ b. eqb b 32) (word ++ 32 ∷ rest) ≡ word ∷ slice_split (λ b. eqb b 32) rest
split_word [] rest e = refl
split_word (x ∷ word) rest e =
    let parts = and_parts (not (eqb x 32)) (list_all (λ b. not (eqb b 32)) word) e in
    rw (not_from x parts.0, split_word word rest parts.1) refl
  where
    not_from : (b : ℕ) → not (eqb b 32) ≡ true → eqb b 32 ≡ false
    not_from b e = grind (arith, nat_tests)

regroup : (x y : List ℕ) → (x ++ (32 ∷ y)) ++ 32 ∷ [] ≡ x ++ (32 ∷ (y ++ 32 ∷ []))
regroup x y = append_assoc x (32 ∷ y) (32 ∷ [])

split_words : (words : List (List ℕ)) → AllByRecursion IsPlain words → 0 < length words → slice_split (λ b. eqb b 32) (join_with_byte 32 words ++ 32 ∷ []) ≡ words ++ [] ∷ []
split_words [] p some = absurd (omega arith)
split_words (x ∷ []) p some = split_word x [] (weaker is_word_byte (λ b. not (eqb b 32)) no_space x p.0.plain)
split_words (x ∷ y ∷ words) p some =
    ap (slice_split (λ b. eqb b 32)) (regroup x (join_with_byte 32 (y ∷ words)))
    ∙ split_word x (join_with_byte 32 (y ∷ words) ++ 32 ∷ []) (weaker is_word_byte (λ b. not (eqb b 32)) no_space x p.0.plain)
    ∙ ap (λ (ws : List (List ℕ)). x ∷ ws) (split_words (y ∷ words) p.1 (omega arith))

keep_words : (words : List (List ℕ)) → AllByRecursion IsPlain words → filter (λ word. not (eqb (length word) 0)) (words ++ [] ∷ []) ≡ words
keep_words [] p = refl
keep_words (x ∷ words) p =
    let some = p.0.some in
    rw (ne_eqb (length x) 0 (λ e. omega arith)) (ap (λ (ws : List (List ℕ)). x ∷ ws) (keep_words words p.1))

-- the words with spaces between them have no semicolon and are printable
joined : (q : ℕ → Bool) → ((b : ℕ) → is_word_byte b ≡ true → q b ≡ true) → q 32 ≡ true → (words : List (List ℕ)) → AllByRecursion IsPlain words → list_all q (join_with_byte 32 words) ≡ true
joined q more space [] p = refl
joined q more space (x ∷ []) p = weaker is_word_byte q more x p.0.plain
joined q more space (x ∷ y ∷ words) p =
    list_all-append q x (32 ∷ join_with_byte 32 (y ∷ words))
    ∙ and_from _ _ (weaker is_word_byte q more x p.0.plain) (and_from _ _ space (joined q more space (y ∷ words) p.1))

-- a line of words, one space apart, with a comment behind them
abbrev pub commented : List (List ℕ) → List ℕ → List ℕ
commented words comment = join_with_byte 32 words ++ 32 ∷ 59 ∷ comment

pub words_in-commented : (words : List (List ℕ)) (comment : List ℕ) → AllByRecursion IsPlain words → 0 < length words → words_in (commented words comment) ≡ words
words_in-commented words comment p some =
    let text : List ℕ = join_with_byte 32 words in
    let clean : list_all (λ b. not (eqb b 59)) (text ++ 32 ∷ []) ≡ true = list_all-append (λ b. not (eqb b 59)) text (32 ∷ []) ∙ and_from _ _ (joined (λ b. not (eqb b 59)) no_semicolon refl words p) refl in
    let cut : without_comment (commented words comment) ≡ text ++ 32 ∷ [] = ap without_comment (sym (append_assoc text (32 ∷ []) (59 ∷ comment))) ∙ cut_comment (text ++ 32 ∷ []) comment clean in
    ap (λ (t : List ℕ). filter (λ word. not (eqb (length word) 0)) (slice_split (λ b. eqb b 32) t)) cut
    ∙ ap (filter (λ word. not (eqb (length word) 0))) (split_words words p some)
    ∙ keep_words words p

pub commented_printable : (words : List (List ℕ)) (comment : List ℕ) → AllByRecursion IsPlain words → list_all is_printable comment ≡ true → list_all is_printable (commented words comment) ≡ true
commented_printable words comment p e =
    list_all-append is_printable (join_with_byte 32 words) (32 ∷ 59 ∷ comment) ∙ and_from _ _ (joined is_printable printable_byte refl words p) e

-- the words of a form, one space apart, stand for its item
pub form_read : (f : Form) (comment : List ℕ) → IsAllowed f → list_all is_printable comment ≡ true → IsRead (commented (words_of f) comment) (Some (item_of f))
form_read f comment allowed e =
    let p = form_plain f allowed in
    record {
      printable = AllPass-from_list_all is_printable (commented (words_of f) comment) (commented_printable (words_of f) comment p e);
      stands = record { form = f; allowed = allowed; words_are = words_in-commented (words_of f) comment p (form_some f); item_is = refl };
    }

-- ---- a text is cut into its lines

pub lines_of-line : (line rest : List ℕ) → list_all is_printable line ≡ true → lines_of (line ++ 10 ∷ rest) ≡ line ∷ lines_of rest
lines_of-line [] rest e = refl
lines_of-line (b ∷ line) rest e =
    let parts = and_parts (is_printable b) (list_all is_printable line) e in
    rw (printable_no_feed b parts.0, lines_of-line line rest parts.1) refl
