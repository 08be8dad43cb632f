-- Lines and texts: the functions answer what the grammar says.
use Rattle.std.proofs.Common.{◌≡◌, ◌≢◌, ℕ, zero, suc, ◌+◌, ◌⊎◌, Bool, true, false, cond, List, [], ◌∷◌, ◌++◌, length, Option, Some, None, Result, Ok, Err, refl, sym, ap, subst, ◌∙◌, arith, inl, inr}
use Rattle.std.specs.Prelude.{pos, FitsSigned, IfOk}
use Rattle.std.specs.Int.{w32}
use Rattle.std.specs.List.{list_all, AllPass}
use Rattle.std.specs.Option.{option_to_list}
use Rattle.std.proofs.lemmas.List.Sums.{AllPass-from_list_all, list_all-from_AllPass}
use Rattle.hex.specs.Hex.{IsBytes}
use Rattle.apf_coding.specs.Instruction.{Instruction}
use Rattle.apf_coding.specs.Spelling.{IsWellFormed}
use Rattle.apf_asm.specs.declared.item.Item.{Item}
use Rattle.apf_asm.specs.declared.item.Target.TheVariants as targets
use Rattle.apf_asm.specs.declared.text_error.TextKind.{TextKind}
use Rattle.apf_asm.specs.declared.text_error.TextKind.TheVariants as kinds
use Rattle.apf_asm.specs.declared.text_error.TextError.{TextError}
use Rattle.apf_asm.specs.declared.text_error.TextError.TheVariants.{Bad, OutOfMemory}
use Rattle.apf_asm.specs.declared.text_head.Head.{Head}
use Rattle.apf_asm.specs.declared.text_head.Head.TheVariants as heads
use Rattle.apf_asm.specs.TextAnswers.{AnswersAs}
use Rattle.apf_asm.specs.TextForms.{Form, Label, Load, ArithmeticR1, ShiftR1, Signed, LoadSlot, StoreSlot, Complement, Negate, Swap, Move, Jump, CompareR1, CompareBytes, Dotted, Byte, words_of, item_of, IsAllowed, Denotes, IsKnown}
use Rattle.plain_text.specs.Lines.{lines_of}
use Rattle.apf_asm.specs.TextLines.{is_printable, words_in, Stands, IsRead, AreRefused, IsRefused, AreRead, TextReads, TextRefuses}
use Rattle.apf_asm.specs.TextReading.{head_of, item_read, operand_answer, head_answer, words_answer, line_answer, with_items, goes_on, lines_answer, text_answer}
use Rattle.apf_asm.proofs.TextHeads.{IsHead, head_of_is}
use Rattle.apf_asm.proofs.TextItems.{item_is, form_again, one_fits}

abbrev ok : {A E : Type 0} → A → Result A E
ok x = Ok x

abbrev err : {A E : Type 0} → E → Result A E
err x = Err x

ok_is : {A E : Type 0} (x y : A) → ok {E = E} x ≡ Ok y → x ≡ y
ok_is x y e = cc

err_is : {A E : Type 0} (x y : E) → err {A = A} x ≡ Err y → x ≡ y
err_is x y e = cc

some_item : (a b : Item) → Some a ≡ Some b → a ≡ b
some_item a b e = cc

bad_number : (m n : ℕ) (j k : TextKind) → Bad m j ≡ Bad n k → m ≡ n
bad_number m n j k e = cc

bad_kind : (m n : ℕ) (j k : TextKind) → Bad m j ≡ Bad n k → j ≡ k
bad_kind m n j k e = cc

-- ---- the words that begin a form

zero_byte : IsBytes (0 ∷ [])
zero_byte zero = omega arith
zero_byte (suc k) = omega arith

known_by : (f : Form) (w v : List ℕ) (operands : List (List ℕ)) → IsAllowed f → words_of f ≡ v ∷ operands → w ≡ v → IsKnown w
known_by f w v operands allowed e s = record { form = f; allowed = allowed; operands = operands; words_are = e ∙ ap (λ (t : List ℕ). t ∷ operands) (sym s) }

nothing_fits : FitsSigned w32 (pos 0)
nothing_fits = record { sfits = omega arith }

pub known_from : (h : Head) (w : List ℕ) → IsHead h w → IsKnown w
known_from (heads.Label n) w is = known_by (Label n) w _ _ is.0 refl is.1
known_from (heads.Load op) w is = known_by (Load op 0 0) w _ _ (is.0, omega arith, omega arith) refl is.1
known_from (heads.Arithmetic op) w is = known_by (ArithmeticR1 op) w _ _ is.0 refl is.1
known_from heads.Shift w is = known_by ShiftR1 w _ _ tt refl is
known_from (heads.Signed op) w is = known_by (Signed op 0 (pos 0)) w _ _ (is.0, omega arith, nothing_fits) refl is.1
known_from (heads.Slot base) w is = elim is [ inl ldm ↦ known_by (LoadSlot 0 0) w _ _ (omega arith, omega arith) refl ldm.1 | inr stm ↦ known_by (StoreSlot 0 0) w _ _ (omega arith, omega arith) refl stm.1 ]
known_from (heads.Register code) w is = elim is [
  | inl nots ↦ known_by (Complement 0) w _ _ (omega arith) refl nots.1
  | inr (inl neg) ↦ known_by (Negate 0) w _ _ (omega arith) refl neg.1
  | inr (inr moves) ↦ known_by (Move 0) w _ _ (omega arith) refl moves.1
]
known_from heads.Swap w is = known_by Swap w _ _ tt refl is
known_from heads.Jump w is = known_by (Jump targets.Pass) w _ _ tt refl is
known_from (heads.Compare op) w is = known_by (CompareR1 op targets.Pass) w _ _ (is.0, tt) refl is.1
known_from heads.CompareBytes w is = known_by (CompareBytes (0 ∷ []) targets.Pass) w _ _ ((λ k. zero_byte k), omega arith, omega arith, tt) refl is
known_from (heads.Dotted op width) w is =
    let i : Instruction = record { op = op; reg = 0; width = width; imm = 0; second = 0; bytes = [] } in
    let fits = one_fits width is.0 in
    let good : IsWellFormed i = record { reg = omega arith; width = is.0; imm = fits; second = fits; no_second = λ h. refl; bytes = fits; no_bytes = λ h. refl } in
    known_by (Dotted i) w _ _ (good, (λ k. omega arith), omega arith) refl is.1
known_from heads.Byte w is = known_by (Byte 0) w _ _ (omega arith) refl is

head_some : (o : Option Head) (operands : List (List ℕ)) (item : Item) → head_answer o operands ≡ Ok (Some item) → (h : Head) × (o ≡ Some h)
head_some (Some h) operands item e = (h, refl)
head_some None operands item e = absurd cc

pub known_head : (w : List ℕ) → IsKnown w → (h : Head) × (head_of w ≡ Some h)
unfolding words_answer
known_head w k = head_some (head_of w) k.operands (item_of k.form) (ap words_answer (sym k.words_are) ∙ form_again k.form k.allowed)

-- ---- words

answer_read : (o : Option Item) (found : Option Item) (words : List (List ℕ)) → ((item : Item) → o ≡ Some item → Denotes words item) → operand_answer o ≡ Ok found → Stands words found
answer_read (Some item) found words more e = subst (Stands words) (ok_is (Some item) found e) (more item refl)
answer_read None found words more e = absurd cc

head_read : (o : Option Head) (w : List ℕ) (operands : List (List ℕ)) (found : Option Item) → head_of w ≡ o → head_answer o operands ≡ Ok found → Stands (w ∷ operands) found
head_read (Some h) w operands found is e = answer_read (item_read h operands) found (w ∷ operands) (λ item read. item_is h w operands item (head_of_is w h is) read) e
head_read None w operands found is e = absurd cc

words_read : (words : List (List ℕ)) (found : Option Item) → words_answer words ≡ Ok found → Stands words found
unfolding words_answer
words_read [] found e = subst (Stands []) (ok_is None found e) refl
words_read (w ∷ operands) found e = head_read (head_of w) w operands found refl e

words_again : (words : List (List ℕ)) (found : Option Item) → Stands words found → words_answer words ≡ Ok found
unfolding words_answer
words_again words None e = ap words_answer e
words_again words (Some item) d = ap words_answer d.words_are ∙ form_again d.form d.allowed ∙ ap (λ (i : Item). Ok (Some i)) (sym d.item_is)

item_refused : (o : Option Item) (w : List ℕ) (operands : List (List ℕ)) (kind : TextKind) → IsKnown w → ((item : Item) → Denotes (w ∷ operands) item → ⊥) → operand_answer o ≡ Err kind → AreRefused (w ∷ operands) kind
item_refused (Some item) w operands kind known none e = absurd cc
item_refused None w operands kind known none e = subst (AreRefused (w ∷ operands)) (err_is kinds.Operand kind e) (known, none)

head_refused : (o : Option Head) (w : List ℕ) (operands : List (List ℕ)) (kind : TextKind) → head_of w ≡ o → ((item : Item) → Denotes (w ∷ operands) item → ⊥) → head_answer o operands ≡ Err kind → AreRefused (w ∷ operands) kind
head_refused (Some h) w operands kind is none e = item_refused (item_read h operands) w operands kind (known_from h w (head_of_is w h is)) none e
head_refused None w operands kind is none e = subst (AreRefused (w ∷ operands)) (err_is kinds.Word kind e) (λ k. let h = known_head w k in absurd cc)

words_refused : (words : List (List ℕ)) (kind : TextKind) → words_answer words ≡ Err kind → AreRefused words kind
unfolding words_answer
words_refused [] kind e = absurd cc
words_refused (w ∷ operands) kind e = head_refused (head_of w) w operands kind refl (λ item d. let again = words_again (w ∷ operands) (Some item) d in absurd cc) e

none_read : (o : Option Item) (w : List ℕ) (operands : List (List ℕ)) (h : Head) → IsHead h w → item_read h operands ≡ o → ((item : Item) → Denotes (w ∷ operands) item → ⊥) → operand_answer o ≡ Err kinds.Operand
none_read (Some item) w operands h is e none = absurd (none item (item_is h w operands item is e))
none_read None w operands h is e none = refl

unknown : (o : Option Head) (w : List ℕ) (operands : List (List ℕ)) → head_of w ≡ o → (IsKnown w → ⊥) → head_answer o operands ≡ Err kinds.Word
unknown (Some h) w operands is none = absurd (none (known_from h w (head_of_is w h is)))
unknown None w operands is none = refl

words_refused_again : (words : List (List ℕ)) (kind : TextKind) → AreRefused words kind → words_answer words ≡ Err kind
unfolding words_answer
words_refused_again words kinds.Ascii r = absurd r
words_refused_again [] kinds.Word r = absurd r
words_refused_again (w ∷ operands) kinds.Word r = unknown (head_of w) w operands refl r
words_refused_again [] kinds.Operand r = absurd r
words_refused_again (w ∷ operands) kinds.Operand r =
    let h = known_head w r.0 in
    rw h.1 (none_read (item_read h.0 operands) w operands h.0 (head_of_is w h.0 h.1) refl r.1)

-- ---- lines

test_ok : (b : Bool) (answer : Result (Option Item) TextKind) (found : Option Item) → cond b answer (Err kinds.Ascii) ≡ Ok found → (b ≡ true) × (answer ≡ Ok found)
test_ok true answer found e = (refl, e)
test_ok false answer found e = absurd cc

pub line_read : (line : List ℕ) (found : Option Item) → line_answer line ≡ Ok found → IsRead line found
unfolding line_answer
line_read line found e =
    let t = test_ok (list_all is_printable line) (words_answer (words_in line)) found e in
    record { printable = AllPass-from_list_all is_printable line t.0; stands = words_read (words_in line) found t.1 }

pub line_again : (line : List ℕ) (found : Option Item) → IsRead line found → line_answer line ≡ Ok found
unfolding line_answer
line_again line found r = rw (list_all-from_AllPass is_printable line r.printable) (words_again (words_in line) found r.stands)

refused_words : (line : List ℕ) (kind : TextKind) → AllPass is_printable line → AreRefused (words_in line) kind → IsRefused line kind
refused_words line kinds.Ascii p r = absurd r
refused_words line kinds.Word p r = (p, r)
refused_words line kinds.Operand p r = (p, r)

line_cases : (b : Bool) (line : List ℕ) (kind : TextKind) → list_all is_printable line ≡ b → cond b (words_answer (words_in line)) (Err kinds.Ascii) ≡ Err kind → IsRefused line kind
line_cases true line kind t e = refused_words line kind (AllPass-from_list_all is_printable line t) (words_refused (words_in line) kind e)
line_cases false line kind t e = subst (IsRefused line) (err_is kinds.Ascii kind e) (λ p. let all = list_all-from_AllPass is_printable line p in absurd cc)

pub line_refused : (line : List ℕ) (kind : TextKind) → line_answer line ≡ Err kind → IsRefused line kind
unfolding line_answer
line_refused line kind e = line_cases (list_all is_printable line) line kind refl e

ascii_again : (b : Bool) (line : List ℕ) (answer : Result (Option Item) TextKind) → list_all is_printable line ≡ b → (AllPass is_printable line → ⊥) → cond b answer (Err kinds.Ascii) ≡ Err kinds.Ascii
ascii_again true line answer t none = absurd (none (AllPass-from_list_all is_printable line t))
ascii_again false line answer t none = refl

pub line_refused_again : (line : List ℕ) (kind : TextKind) → IsRefused line kind → line_answer line ≡ Err kind
unfolding line_answer
line_refused_again line kinds.Ascii r = ascii_again (list_all is_printable line) line (words_answer (words_in line)) refl r
line_refused_again line kinds.Word r = rw (list_all-from_AllPass is_printable line r.0) (words_refused_again (words_in line) kinds.Word r.1)
line_refused_again line kinds.Operand r = rw (list_all-from_AllPass is_printable line r.0) (words_refused_again (words_in line) kinds.Operand r.1)

-- ---- texts

front_ok : (front items : List Item) (later : Result (List Item) TextError) → with_items front later ≡ Ok items → (rest : List Item) × (later ≡ Ok rest) × (items ≡ front ++ rest)
front_ok front items (Ok rest) e = (rest, refl, sym (ok_is (front ++ rest) items e))
front_ok front items (Err x) e = absurd cc

more_read : (answer : Result (Option Item) TextKind) (number : ℕ) (later : Result (List Item) TextError) (items : List Item) → goes_on answer number later ≡ Ok items
    → (found : Option Item) × (answer ≡ Ok found) × ((rest : List Item) × (later ≡ Ok rest) × (items ≡ option_to_list found ++ rest))
more_read (Ok found) number later items e = (found, refl, front_ok (option_to_list found) items later e)
more_read (Err kind) number later items e = absurd cc

pub lines_read : (number : ℕ) (lines : List (List ℕ)) (items : List Item) → lines_answer number lines ≡ Ok items → AreRead lines items
unfolding lines_answer
lines_read number [] items e = sym (ok_is [] items e)
lines_read number (line ∷ lines) items e =
    let m = more_read (line_answer line) number (lines_answer (number + 1) lines) items e in
    (m.0, m.2.0, line_read line m.0 m.1, lines_read (number + 1) lines m.2.0 m.2.1, m.2.2)

pub lines_again : (number : ℕ) (lines : List (List ℕ)) (items : List Item) → AreRead lines items → lines_answer number lines ≡ Ok items
unfolding lines_answer
lines_again number [] items e = ap Ok (sym e)
lines_again number (line ∷ lines) items r =
    rw (line_again line r.0 r.2, lines_again (number + 1) lines r.1 r.3) (ap Ok (sym r.4))

-- the lines before one that is refused are read
pub record Stops (lines : List (List ℕ)) (from number : ℕ) (kind : TextKind) : Type 0 where
  pub before : List (List ℕ)
  pub line : List ℕ
  pub after : List (List ℕ)
  pub lines_are : lines ≡ before ++ line ∷ after
  pub items : List Item
  pub read : AreRead before items
  pub refused : IsRefused line kind
  pub number_is : number ≡ length before + from

front_err : (front : List Item) (later : Result (List Item) TextError) (e : TextError) → with_items front later ≡ Err e → later ≡ Err e
front_err front (Ok rest) e p = absurd cc
front_err front (Err x) e p = p

stops_here : (line : List ℕ) (lines : List (List ℕ)) (from number : ℕ) (kind : TextKind) → line_answer line ≡ Err kind → number ≡ from → Stops (line ∷ lines) from number kind
stops_here line lines from number kind e same = record {
  before = [];
  line = line;
  after = lines;
  lines_are = refl;
  items = [];
  read = refl;
  refused = line_refused line kind e;
  number_is = omega arith;
}

stops_later : (line : List ℕ) (lines : List (List ℕ)) (from number : ℕ) (kind : TextKind) (found : Option Item) → line_answer line ≡ Ok found → Stops lines (from + 1) number kind → Stops (line ∷ lines) from number kind
stops_later line lines from number kind found e s =
    let same = s.number_is in
    record {
      before = line ∷ s.before;
      line = s.line;
      after = s.after;
      lines_are = ap (λ (ls : List (List ℕ)). line ∷ ls) s.lines_are;
      items = option_to_list found ++ s.items;
      read = (found, s.items, line_read line found e, s.read, refl);
      refused = s.refused;
      number_is = omega arith;
    }

turn_stops : (answer : Result (Option Item) TextKind) (line : List ℕ) (lines : List (List ℕ)) (from number : ℕ) (kind : TextKind) → line_answer line ≡ answer
    → (lines_answer (from + 1) lines ≡ Err (Bad number kind) → Stops lines (from + 1) number kind)
    → goes_on answer from (lines_answer (from + 1) lines) ≡ Err (Bad number kind) → Stops (line ∷ lines) from number kind
turn_stops (Ok found) line lines from number kind is more e = stops_later line lines from number kind found is (more (front_err (option_to_list found) (lines_answer (from + 1) lines) (Bad number kind) e))
turn_stops (Err other) line lines from number kind is more e =
    let named = err_is (Bad from other) (Bad number kind) e in
    stops_here line lines from number kind (is ∙ ap Err (bad_kind from number other kind named)) (sym (bad_number from number other kind named))

pub lines_stop : (from : ℕ) (lines : List (List ℕ)) (number : ℕ) (kind : TextKind) → lines_answer from lines ≡ Err (Bad number kind) → Stops lines from number kind
unfolding lines_answer
lines_stop from [] number kind e = absurd cc
lines_stop from (line ∷ lines) number kind e = turn_stops (line_answer line) line lines from number kind refl (λ later. lines_stop (from + 1) lines number kind later) e

pub lines_stop_again : (from : ℕ) (before : List (List ℕ)) (line : List ℕ) (after : List (List ℕ)) (items : List Item) (kind : TextKind) → AreRead before items → IsRefused line kind → lines_answer from (before ++ line ∷ after) ≡ Err (Bad (length before + from) kind)
unfolding lines_answer
lines_stop_again from [] line after items kind read refused = rw (line_refused_again line kind refused) (ap (λ (n : ℕ). Err (Bad n kind)) (omega arith))
lines_stop_again from (first ∷ before) line after items kind read refused =
    let sum : length before + (from + 1) ≡ length (first ∷ before) + from = omega arith in
    rw (line_again first read.0 read.2, lines_stop_again (from + 1) before line after read.1 kind read.3 refused) (ap (λ (n : ℕ). Err (Bad n kind)) sum)

-- ---- a text

pub text_read : (text : List ℕ) (items : List Item) → text_answer text ≡ Ok items → TextReads text items
text_read text items e = lines_read 1 (lines_of text) items e

pub text_again : (text : List ℕ) (items : List Item) → TextReads text items → text_answer text ≡ Ok items
text_again text items r = lines_again 1 (lines_of text) items r

pub text_refused : (text : List ℕ) (number : ℕ) (kind : TextKind) → text_answer text ≡ Err (Bad number kind) → TextRefuses text number kind
text_refused text number kind e =
    let s = lines_stop 1 (lines_of text) number kind e in
    record { before = s.before; line = s.line; after = s.after; lines_are = s.lines_are; items = s.items; read = s.read; refused = s.refused; number_is = s.number_is }

pub text_refused_again : (text : List ℕ) (number : ℕ) (kind : TextKind) → TextRefuses text number kind → text_answer text ≡ Err (Bad number kind)
text_refused_again text number kind r =
    ap (lines_answer 1) r.lines_are ∙ lines_stop_again 1 r.before r.line r.after r.items kind r.read r.refused ∙ ap (λ (n : ℕ). Err (Bad n kind)) (sym r.number_is)

-- ---- the one answer

items_are : (a b : List Item) (r : Result (List Item) TextError) → r ≡ Ok a → r ≡ Ok b → a ≡ b
items_are a b r p q = ok_is a b (sym p ∙ q)

pub one_reading : (text : List ℕ) (a b : List Item) → TextReads text a → TextReads text b → a ≡ b
one_reading text a b p q = items_are a b (text_answer text) (text_again text a p) (text_again text b q)

pub one_refusal : (text : List ℕ) (m n : ℕ) (j k : TextKind) → TextRefuses text m j → TextRefuses text n k → (m ≡ n) × (j ≡ k)
one_refusal text m n j k p q =
    let e = err_is (Bad m j) (Bad n k) (sym (text_refused_again text m j p) ∙ text_refused_again text n k q) in
    (bad_number m n j k e, bad_kind m n j k e)

pub not_both : (text : List ℕ) (items : List Item) (line : ℕ) (kind : TextKind) → TextReads text items → TextRefuses text line kind → ⊥
not_both text items line kind p q = let a = text_again text items p in let b = text_refused_again text line kind q in absurd cc

pub one_item : (words : List (List ℕ)) (a b : Item) → Denotes words a → Denotes words b → a ≡ b
one_item words a b p q = some_item a b (ok_is (Some a) (Some b) (sym (words_again words (Some a) p) ∙ words_again words (Some b) q))

no_memory : (answer : Result (Option Item) TextKind) (number : ℕ) (later : Result (List Item) TextError) → later ≢ Err OutOfMemory → goes_on answer number later ≢ Err OutOfMemory
no_memory (Ok found) number (Ok rest) ne e = absurd cc
no_memory (Ok found) number (Err x) ne e = ne e
no_memory (Err kind) number later ne e = absurd cc

lines_no_memory : (number : ℕ) (lines : List (List ℕ)) → lines_answer number lines ≢ Err OutOfMemory
unfolding lines_answer
lines_no_memory number [] e = absurd cc
lines_no_memory number (line ∷ lines) e = no_memory (line_answer line) number (lines_answer (number + 1) lines) (lines_no_memory (number + 1) lines) e

either_cases : (text : List ℕ) (answer : Result (List Item) TextError) → text_answer text ≡ answer → ((items : List Item) × TextReads text items) ⊎ ((line : ℕ) × (kind : TextKind) × TextRefuses text line kind)
either_cases text (Ok items) e = inl (items, text_read text items e)
either_cases text (Err (Bad line kind)) e = inr (line, kind, text_refused text line kind e)
either_cases text (Err OutOfMemory) e = absurd (lines_no_memory 1 (lines_of text) e)

pub either : (text : List ℕ) → ((items : List Item) × TextReads text items) ⊎ ((line : ℕ) × (kind : TextKind) × TextRefuses text line kind)
either text = either_cases text (text_answer text) refl

-- ---- what a call answers

pub told_only : (r answer : Result (List Item) TextError) (items : List Item) → AnswersAs r answer → answer ≡ Ok items → (r ≡ Ok items) ⊎ (r ≡ Err OutOfMemory)
told_only (Ok found) answer items t e = inl (ap Ok (ok_is found items (sym t ∙ e)))
told_only (Err (Bad line kind)) answer items t e = absurd cc
told_only (Err OutOfMemory) answer items t e = inr refl

pub told_refused : (r answer : Result (List Item) TextError) (line : ℕ) (kind : TextKind) → AnswersAs r answer → answer ≡ Err (Bad line kind) → (r ≡ Err (Bad line kind)) ⊎ (r ≡ Err OutOfMemory)
told_refused (Ok found) answer line kind t e = absurd cc
told_refused (Err (Bad other cause)) answer line kind t e = inl (sym t ∙ e)
told_refused (Err OutOfMemory) answer line kind t e = inr refl

pub told_named : (r answer : Result (List Item) TextError) (line : ℕ) (kind : TextKind) → AnswersAs r answer → r ≡ Err (Bad line kind) → answer ≡ Err (Bad line kind)
told_named (Ok found) answer line kind t e = absurd cc
told_named (Err (Bad other cause)) answer line kind t e = t ∙ e
told_named (Err OutOfMemory) answer line kind t e = absurd cc

pub told_found : (r answer : Result (List Item) TextError) (P : List Item → Type 0) → AnswersAs r answer → ((items : List Item) → answer ≡ Ok items → P items) → IfOk r P
told_found (Ok found) answer P t more = more found t
told_found (Err e) answer P t more = tt
