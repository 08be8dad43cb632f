-- What the first word of a line says, and the first words of the forms.
use Rattle.std.proofs.Common.{◌≡◌, ℕ, suc, ◌+◌, ◌-◌, ◌<◌, ◌≤◌, ◌⊎◌, Bool, true, false, ◌&&◌, cond, eqb, leb, List, [], ◌∷◌, ◌++◌, length, take, drop, get_or, Option, Some, None, refl, sym, ap, subst, ◌∙◌, arith, inl, inr}
use Rattle.std.specs.Prelude.{codes}
use Rattle.std.specs.Fmt.{decimal}
use Rattle.std.specs.List.{find}
use Rattle.std.specs.Str.{bytes_eq}
use Rattle.std.proofs.lemmas.Bool.{and_parts, and_from, eqb-true, leb-true, le-leb, eq-eqb}
use Rattle.std.proofs.Math.Seq.{drop-cons}
use Rattle.std.proofs.lemmas.List.{take_at, drop_all, take-append-drop, length-append, get_or-append-add, append_assoc}
use Rattle.apf_coding.specs.declared.instruction.Op.{Op}
use Rattle.apf_coding.specs.declared.instruction.Op.TheVariants.{Ldb, Ldh, Ldw, Ldbx, Ldhx, Ldwx, Add, Mul, Div, And, Or, Sh, Li, Jmp, Jeq, Jne, Jgt, Jlt, Jset, Jnebs, Ext, Lddw, Stdw}
use Rattle.apf_coding.specs.Instruction.{is_conditional, all_ops}
use Rattle.apf_coding.specs.Spelling.{IsWidth}
use Rattle.apf_coding.specs.Names.{op_name}
use Rattle.apf_coding.specs.Reading.{◌>>=◌}
use Rattle.apf_coding.proofs.Fields.{bind_some, some_is}
use Rattle.apf_asm.specs.declared.text_head.Head.{Head}
use Rattle.apf_asm.specs.declared.text_head.Head.TheVariants as heads
use Rattle.apf_asm.specs.TextForms.{dotted_word, is_load, is_arithmetic, is_signed, IsWord}
use Rattle.apf_asm.specs.TextReading.{word_number, op_named, width_of, op_head, other_head, head_from, dotted_head, is_label_word, is_dotted_word, head_of}
use Rattle.apf_asm.proofs.TextNumbers.{number_of_is, number_of-decimal}
use Rattle.plain_text.proofs.Words.{equal_words}
use Rattle.apf_asm.proofs.TextWords.{chosen}

-- a word that says so of the line
abbrev pub IsHead : Head → List ℕ → Type 0
IsHead (heads.Label n) word = IsWord n × (word ≡ codes "L" ++ decimal n ++ codes ":")
IsHead (heads.Load op) word = (is_load op ≡ true) × (word ≡ op_name op)
IsHead (heads.Arithmetic op) word = (is_arithmetic op ≡ true) × (word ≡ op_name op)
IsHead heads.Shift word = word ≡ codes "sh"
IsHead (heads.Signed op) word = (is_signed op ≡ true) × (word ≡ op_name op)
IsHead (heads.Slot base) word = ((base ≡ 0) × (word ≡ codes "ldm")) ⊎ ((base ≡ 16) × (word ≡ codes "stm"))
IsHead (heads.Register code) word = ((code ≡ 32) × (word ≡ codes "not")) ⊎ (((code ≡ 33) × (word ≡ codes "neg")) ⊎ ((code ≡ 35) × (word ≡ codes "move")))
IsHead heads.Swap word = word ≡ codes "swap"
IsHead heads.Jump word = word ≡ codes "jmp"
IsHead (heads.Compare op) word = (is_conditional op ≡ true) × (word ≡ op_name op)
IsHead heads.CompareBytes word = word ≡ codes "jnebs"
IsHead (heads.Dotted op width) word = IsWidth width × (word ≡ dotted_word op width)
IsHead heads.Byte word = word ≡ codes ".byte"

-- ---- the opcode of a name

named_from : (name : List ℕ) (op : Op) (ops : List Op) → find (λ op. bytes_eq (op_name op) name) ops ≡ Some op → op_name op ≡ name
named_from name op [] e = absurd cc
named_from name op (other ∷ ops) e = elim (chosen (op_name other) name (bytes_eq (op_name other) name) (Some other) _ op refl e) [
  | inl same ↦ subst (λ (x : Op). op_name x ≡ name) (some_is other op same.1) same.0
  | inr later ↦ named_from name op ops later
]

pub op_named_is : (name : List ℕ) (op : Op) → op_named name ≡ Some op → op_name op ≡ name
unfolding op_named
op_named_is name op e = named_from name op all_ops e

pub op_head_is : (op : Op) (h : Head) (w : List ℕ) → op_head op ≡ Some h → w ≡ op_name op → IsHead h w
op_head_is Ldb h w e s = subst (λ (x : Head). IsHead x w) (some_is (heads.Load Ldb) h e) (refl, s)
op_head_is Ldh h w e s = subst (λ (x : Head). IsHead x w) (some_is (heads.Load Ldh) h e) (refl, s)
op_head_is Ldw h w e s = subst (λ (x : Head). IsHead x w) (some_is (heads.Load Ldw) h e) (refl, s)
op_head_is Ldbx h w e s = subst (λ (x : Head). IsHead x w) (some_is (heads.Load Ldbx) h e) (refl, s)
op_head_is Ldhx h w e s = subst (λ (x : Head). IsHead x w) (some_is (heads.Load Ldhx) h e) (refl, s)
op_head_is Ldwx h w e s = subst (λ (x : Head). IsHead x w) (some_is (heads.Load Ldwx) h e) (refl, s)
op_head_is Add h w e s = subst (λ (x : Head). IsHead x w) (some_is (heads.Arithmetic Add) h e) (refl, s)
op_head_is Mul h w e s = subst (λ (x : Head). IsHead x w) (some_is (heads.Arithmetic Mul) h e) (refl, s)
op_head_is Div h w e s = subst (λ (x : Head). IsHead x w) (some_is (heads.Arithmetic Div) h e) (refl, s)
op_head_is And h w e s = subst (λ (x : Head). IsHead x w) (some_is (heads.Arithmetic And) h e) (refl, s)
op_head_is Or h w e s = subst (λ (x : Head). IsHead x w) (some_is (heads.Arithmetic Or) h e) (refl, s)
op_head_is Sh h w e s = subst (λ (x : Head). IsHead x w) (some_is (heads.Shift) h e) s
op_head_is Li h w e s = subst (λ (x : Head). IsHead x w) (some_is (heads.Signed Li) h e) (refl, s)
op_head_is Jmp h w e s = subst (λ (x : Head). IsHead x w) (some_is (heads.Jump) h e) s
op_head_is Jeq h w e s = subst (λ (x : Head). IsHead x w) (some_is (heads.Compare Jeq) h e) (refl, s)
op_head_is Jne h w e s = subst (λ (x : Head). IsHead x w) (some_is (heads.Compare Jne) h e) (refl, s)
op_head_is Jgt h w e s = subst (λ (x : Head). IsHead x w) (some_is (heads.Compare Jgt) h e) (refl, s)
op_head_is Jlt h w e s = subst (λ (x : Head). IsHead x w) (some_is (heads.Compare Jlt) h e) (refl, s)
op_head_is Jset h w e s = subst (λ (x : Head). IsHead x w) (some_is (heads.Compare Jset) h e) (refl, s)
op_head_is Jnebs h w e s = subst (λ (x : Head). IsHead x w) (some_is (heads.CompareBytes) h e) s
op_head_is Ext h w e s = absurd cc
op_head_is Lddw h w e s = subst (λ (x : Head). IsHead x w) (some_is (heads.Signed Lddw) h e) (refl, s)
op_head_is Stdw h w e s = subst (λ (x : Head). IsHead x w) (some_is (heads.Signed Stdw) h e) (refl, s)

-- ---- names that are no opcode's

pick : (P : Head → Type 0) (a b : List ℕ) (yes : Bool) (x : Head) (y : Option Head) (h : Head) → bytes_eq a b ≡ yes → cond yes (Some x) y ≡ Some h → (a ≡ b → P x) → (y ≡ Some h → P h) → P h
pick P a b true x y h t e this other = subst P (some_is x h e) (this (equal_words a b t))
pick P a b false x y h t e this other = other e

other_head_is : (w : List ℕ) (h : Head) → other_head w ≡ Some h → IsHead h w
unfolding other_head
other_head_is w h e =
    pick (λ (x : Head). IsHead x w) w (codes "ldm") (bytes_eq w (codes "ldm")) (heads.Slot 0) _ h refl e (λ s. inl (refl, s)) (λ e1.
    pick (λ (x : Head). IsHead x w) w (codes "stm") (bytes_eq w (codes "stm")) (heads.Slot 16) _ h refl e1 (λ s. inr (refl, s)) (λ e2.
    pick (λ (x : Head). IsHead x w) w (codes "not") (bytes_eq w (codes "not")) (heads.Register 32) _ h refl e2 (λ s. inl (refl, s)) (λ e3.
    pick (λ (x : Head). IsHead x w) w (codes "neg") (bytes_eq w (codes "neg")) (heads.Register 33) _ h refl e3 (λ s. inr (inl (refl, s))) (λ e4.
    pick (λ (x : Head). IsHead x w) w (codes "swap") (bytes_eq w (codes "swap")) (heads.Swap) _ h refl e4 (λ s. s) (λ e5.
    pick (λ (x : Head). IsHead x w) w (codes "move") (bytes_eq w (codes "move")) (heads.Register 35) _ h refl e5 (λ s. inr (inr (refl, s))) (λ e6.
    pick (λ (x : Head). IsHead x w) w (codes ".byte") (bytes_eq w (codes ".byte")) (heads.Byte) _ h refl e6 (λ s. s) (λ e7.
    absurd cc)))))))

name_head_is : (o : Option Op) (w : List ℕ) (h : Head) → op_named w ≡ o → head_from o w ≡ Some h → IsHead h w
name_head_is (Some op) w h named e = op_head_is op h w e (sym (op_named_is w op named))
name_head_is None w h named e = other_head_is w h e

-- ---- the ends of a word

last_one : (xs : List ℕ) → 0 < length xs → xs ≡ take (length xs - 1) xs ++ get_or xs (length xs - 1) 0 ∷ []
last_one xs some =
    let k : ℕ = length xs - 1 in
    let inside : k < length xs = omega arith in
    let none : drop (suc k) xs ≡ [] = drop_all (suc k) xs (omega arith) in
    sym (take-append-drop k xs) ∙ ap (λ (t : List ℕ). take k xs ++ t) (drop-cons xs k 0 inside ∙ ap (λ (t : List ℕ). get_or xs k 0 ∷ t) none)

last_two : (xs : List ℕ) → 2 ≤ length xs → xs ≡ take (length xs - 2) xs ++ get_or xs (length xs - 2) 0 ∷ get_or xs (length xs - 1) 0 ∷ []
last_two xs some =
    let k : ℕ = length xs - 2 in
    let second : suc k ≡ length xs - 1 = omega arith in
    let none : drop (suc (suc k)) xs ≡ [] = drop_all (suc (suc k)) xs (omega arith) in
    sym (take-append-drop k xs) ∙ ap (λ (t : List ℕ). take k xs ++ t) (drop-cons xs k 0 (omega arith) ∙ ap (λ (t : List ℕ). get_or xs k 0 ∷ t) (drop-cons xs (suc k) 0 (omega arith) ∙ ap (λ (t : List ℕ). get_or xs (suc k) 0 ∷ t) none ∙ ap (λ (n : ℕ). get_or xs n 0 ∷ []) second))

-- ---- labels

label_split : (word : List ℕ) → 2 ≤ length word → get_or word 0 0 ≡ 76 → get_or word (length word - 1) 0 ≡ 58 → word ≡ 76 ∷ (take (length word - 2) (drop 1 word) ++ 58 ∷ [])
label_split [] long first last = absurd (omega arith)
label_split (c ∷ rest) long first last =
    let same : suc (length rest) - 2 ≡ length rest - 1 = omega arith in
    let end : suc (length rest) - 1 ≡ suc (length rest - 1) = omega arith in
    let at : get_or rest (length rest - 1) 0 ≡ 58 = ap (λ (n : ℕ). get_or (c ∷ rest) n 0) (sym end) ∙ last in
    let split : rest ≡ take (length rest - 1) rest ++ 58 ∷ [] = last_one rest (omega arith) ∙ ap (λ (n : ℕ). take (length rest - 1) rest ++ n ∷ []) at in
    ap (λ (n : ℕ). n ∷ rest) first ∙ ap (λ (t : List ℕ). 76 ∷ t) split ∙ ap (λ (n : ℕ). 76 ∷ (take n rest ++ 58 ∷ [])) (sym same)

label_is : (w : List ℕ) (h : Head) → is_label_word w ≡ true → (word_number (take (length w - 2) (drop 1 w)) >>= λ n. Some (heads.Label n)) ≡ Some h → IsHead h w
label_is w h t e =
    let long = and_parts (leb 2 (length w) && eqb (get_or w 0 0) 76) (eqb (get_or w (length w - 1) 0) 58) t in
    let first = and_parts (leb 2 (length w)) (eqb (get_or w 0 0) 76) long.0 in
    let b = bind_some (word_number (take (length w - 2) (drop 1 w))) (λ n. Some (heads.Label n)) h e in
    let text = number_of_is (take (length w - 2) (drop 1 w)) b.0 b.1 in
    let split = label_split w (leb-true _ _ first.0) (eqb-true _ _ first.1) (eqb-true _ _ long.1) in
    subst (λ (x : Head). IsHead x w) (some_is (heads.Label b.0) h b.2) (text.0, split ∙ ap (λ (t : List ℕ). 76 ∷ (t ++ 58 ∷ [])) text.1)

-- ---- dotted words

width_cases : (c w : ℕ) (a0 a1 a2 a4 : Bool) → eqb c 48 ≡ a0 → eqb c 49 ≡ a1 → eqb c 50 ≡ a2 → eqb c 52 ≡ a4
    → cond a0 (Some 0) (cond a1 (Some 1) (cond a2 (Some 2) (cond a4 (Some 4) None))) ≡ Some w → IsWidth w × (c ≡ 48 + w)
width_cases c w true a1 a2 a4 p q r s e = let same : 0 ≡ w = some_is 0 w e in subst (λ (k : ℕ). IsWidth k × (c ≡ 48 + k)) same (inl refl, eqb-true c 48 p)
width_cases c w false true a2 a4 p q r s e = let same : 1 ≡ w = some_is 1 w e in subst (λ (k : ℕ). IsWidth k × (c ≡ 48 + k)) same (inr (inl refl), eqb-true c 49 q)
width_cases c w false false true a4 p q r s e = let same : 2 ≡ w = some_is 2 w e in subst (λ (k : ℕ). IsWidth k × (c ≡ 48 + k)) same (inr (inr (inl refl)), eqb-true c 50 r)
width_cases c w false false false true p q r s e = let same : 4 ≡ w = some_is 4 w e in subst (λ (k : ℕ). IsWidth k × (c ≡ 48 + k)) same (inr (inr (inr refl)), eqb-true c 52 s)
width_cases c w false false false false p q r s e = absurd cc

dotted_made : (name : List ℕ) (c : ℕ) (h : Head) (w : List ℕ) → dotted_head name c ≡ Some h → w ≡ name ++ 46 ∷ c ∷ [] → IsHead h w
dotted_made name c h w e split =
    let o = bind_some (op_named name) (λ op. width_of c >>= λ width. Some (heads.Dotted op width)) h e in
    let d = bind_some (width_of c) (λ width. Some (heads.Dotted o.0 width)) h o.2 in
    let width = width_cases c d.0 (eqb c 48) (eqb c 49) (eqb c 50) (eqb c 52) refl refl refl refl d.1 in
    let spelled : w ≡ dotted_word o.0 d.0 = split ∙ ap (λ (t : List ℕ). t ++ 46 ∷ c ∷ []) (sym (op_named_is name o.0 o.1)) ∙ sym (append_assoc (op_name o.0) (46 ∷ []) (c ∷ [])) ∙ ap (λ (n : ℕ). op_name o.0 ++ codes "." ++ n ∷ []) width.1 in
    subst (λ (x : Head). IsHead x w) (some_is (heads.Dotted o.0 d.0) h d.2) (width.0, spelled)

dotted_is : (w : List ℕ) (h : Head) → is_dotted_word w ≡ true → dotted_head (take (length w - 2) w) (get_or w (length w - 1) 0) ≡ Some h → IsHead h w
dotted_is w h t e =
    let parts = and_parts (leb 2 (length w)) (eqb (get_or w (length w - 2) 0) 46) t in
    dotted_made (take (length w - 2) w) (get_or w (length w - 1) 0) h w e
    (last_two w (leb-true _ _ parts.0) ∙ ap (λ (n : ℕ). take (length w - 2) w ++ n ∷ get_or w (length w - 1) 0 ∷ []) (eqb-true _ _ parts.1))

-- ---- the whole

by_test : {A : Type 0} (b : Bool) (x y : Option A) (z : A) → cond b x y ≡ Some z → ((b ≡ true) × (x ≡ Some z)) ⊎ (y ≡ Some z)
by_test true x y z e = inl (refl, e)
by_test false x y z e = inr e

pub head_of_is : (w : List ℕ) (h : Head) → head_of w ≡ Some h → IsHead h w
unfolding head_of
head_of_is w h e = elim (by_test (is_label_word w) _ _ h e) [
  | inl label ↦ label_is w h label.0 label.1
  | inr other ↦ elim (by_test (is_dotted_word w) _ _ h other) [
    | inl dotted ↦ dotted_is w h dotted.0 dotted.1
    | inr name ↦ name_head_is (op_named w) w h refl name
  ]
]

-- ---- the first words of the forms

label_facts : (d : List ℕ) → (is_label_word (76 ∷ (d ++ 58 ∷ [])) ≡ true) × (take (length (76 ∷ (d ++ 58 ∷ [])) - 2) (d ++ 58 ∷ []) ≡ d)
label_facts d =
    let len : length (d ++ 58 ∷ []) ≡ length d + 1 = length-append d (58 ∷ []) in
    let last : suc (length (d ++ 58 ∷ [])) - 1 ≡ suc (length d + 0) = omega arith in
    let two : suc (length (d ++ 58 ∷ [])) - 2 ≡ length d = omega arith in
    let at : get_or (76 ∷ (d ++ 58 ∷ [])) (suc (length (d ++ 58 ∷ [])) - 1) 0 ≡ 58 = ap (λ (n : ℕ). get_or (76 ∷ (d ++ 58 ∷ [])) n 0) last ∙ get_or-append-add d (58 ∷ []) 0 0 in (
      and_from _ _ (and_from _ _ (le-leb 2 (suc (length (d ++ 58 ∷ []))) (omega arith)) refl) (eq-eqb _ _ at),
      ap (λ (n : ℕ). take n (d ++ 58 ∷ [])) two ∙ take_at d (58 ∷ []) (length d) refl,
    )

pub head_of-label : (n : ℕ) → IsWord n → head_of (codes "L" ++ decimal n ++ codes ":") ≡ Some (heads.Label n)
unfolding head_of
head_of-label n small =
    let f = label_facts (decimal n) in
    rw (f.0, f.1, number_of-decimal n small) refl

at_widths : (P : ℕ → Type 0) → P 0 → P 1 → P 2 → P 4 → (w : ℕ) → IsWidth w → P w
at_widths P p0 p1 p2 p4 w width = elim width [
  | inl e ↦ subst P (sym e) p0
  | inr (inl e) ↦ subst P (sym e) p1
  | inr (inr (inl e)) ↦ subst P (sym e) p2
  | inr (inr (inr e)) ↦ subst P (sym e) p4
]

pub head_of-dotted : (op : Op) (width : ℕ) → IsWidth width → head_of (dotted_word op width) ≡ Some (heads.Dotted op width)
unfolding head_of op_named
head_of-dotted Ldb width w = at_widths (λ (k : ℕ). head_of (dotted_word Ldb k) ≡ Some (heads.Dotted Ldb k)) refl refl refl refl width w
head_of-dotted Ldh width w = at_widths (λ (k : ℕ). head_of (dotted_word Ldh k) ≡ Some (heads.Dotted Ldh k)) refl refl refl refl width w
head_of-dotted Ldw width w = at_widths (λ (k : ℕ). head_of (dotted_word Ldw k) ≡ Some (heads.Dotted Ldw k)) refl refl refl refl width w
head_of-dotted Ldbx width w = at_widths (λ (k : ℕ). head_of (dotted_word Ldbx k) ≡ Some (heads.Dotted Ldbx k)) refl refl refl refl width w
head_of-dotted Ldhx width w = at_widths (λ (k : ℕ). head_of (dotted_word Ldhx k) ≡ Some (heads.Dotted Ldhx k)) refl refl refl refl width w
head_of-dotted Ldwx width w = at_widths (λ (k : ℕ). head_of (dotted_word Ldwx k) ≡ Some (heads.Dotted Ldwx k)) refl refl refl refl width w
head_of-dotted Add width w = at_widths (λ (k : ℕ). head_of (dotted_word Add k) ≡ Some (heads.Dotted Add k)) refl refl refl refl width w
head_of-dotted Mul width w = at_widths (λ (k : ℕ). head_of (dotted_word Mul k) ≡ Some (heads.Dotted Mul k)) refl refl refl refl width w
head_of-dotted Div width w = at_widths (λ (k : ℕ). head_of (dotted_word Div k) ≡ Some (heads.Dotted Div k)) refl refl refl refl width w
head_of-dotted And width w = at_widths (λ (k : ℕ). head_of (dotted_word And k) ≡ Some (heads.Dotted And k)) refl refl refl refl width w
head_of-dotted Or width w = at_widths (λ (k : ℕ). head_of (dotted_word Or k) ≡ Some (heads.Dotted Or k)) refl refl refl refl width w
head_of-dotted Sh width w = at_widths (λ (k : ℕ). head_of (dotted_word Sh k) ≡ Some (heads.Dotted Sh k)) refl refl refl refl width w
head_of-dotted Li width w = at_widths (λ (k : ℕ). head_of (dotted_word Li k) ≡ Some (heads.Dotted Li k)) refl refl refl refl width w
head_of-dotted Jmp width w = at_widths (λ (k : ℕ). head_of (dotted_word Jmp k) ≡ Some (heads.Dotted Jmp k)) refl refl refl refl width w
head_of-dotted Jeq width w = at_widths (λ (k : ℕ). head_of (dotted_word Jeq k) ≡ Some (heads.Dotted Jeq k)) refl refl refl refl width w
head_of-dotted Jne width w = at_widths (λ (k : ℕ). head_of (dotted_word Jne k) ≡ Some (heads.Dotted Jne k)) refl refl refl refl width w
head_of-dotted Jgt width w = at_widths (λ (k : ℕ). head_of (dotted_word Jgt k) ≡ Some (heads.Dotted Jgt k)) refl refl refl refl width w
head_of-dotted Jlt width w = at_widths (λ (k : ℕ). head_of (dotted_word Jlt k) ≡ Some (heads.Dotted Jlt k)) refl refl refl refl width w
head_of-dotted Jset width w = at_widths (λ (k : ℕ). head_of (dotted_word Jset k) ≡ Some (heads.Dotted Jset k)) refl refl refl refl width w
head_of-dotted Jnebs width w = at_widths (λ (k : ℕ). head_of (dotted_word Jnebs k) ≡ Some (heads.Dotted Jnebs k)) refl refl refl refl width w
head_of-dotted Ext width w = at_widths (λ (k : ℕ). head_of (dotted_word Ext k) ≡ Some (heads.Dotted Ext k)) refl refl refl refl width w
head_of-dotted Lddw width w = at_widths (λ (k : ℕ). head_of (dotted_word Lddw k) ≡ Some (heads.Dotted Lddw k)) refl refl refl refl width w
head_of-dotted Stdw width w = at_widths (λ (k : ℕ). head_of (dotted_word Stdw k) ≡ Some (heads.Dotted Stdw k)) refl refl refl refl width w

-- ---- the groups of opcodes

pub head_of-load : (op : Op) → is_load op ≡ true → head_of (op_name op) ≡ Some (heads.Load op)
unfolding head_of op_named
head_of-load Ldb t = refl
head_of-load Ldh t = refl
head_of-load Ldw t = refl
head_of-load Ldbx t = refl
head_of-load Ldhx t = refl
head_of-load Ldwx t = refl
head_of-load Add t = absurd cc
head_of-load Mul t = absurd cc
head_of-load Div t = absurd cc
head_of-load And t = absurd cc
head_of-load Or t = absurd cc
head_of-load Sh t = absurd cc
head_of-load Li t = absurd cc
head_of-load Jmp t = absurd cc
head_of-load Jeq t = absurd cc
head_of-load Jne t = absurd cc
head_of-load Jgt t = absurd cc
head_of-load Jlt t = absurd cc
head_of-load Jset t = absurd cc
head_of-load Jnebs t = absurd cc
head_of-load Ext t = absurd cc
head_of-load Lddw t = absurd cc
head_of-load Stdw t = absurd cc

pub head_of-arithmetic : (op : Op) → is_arithmetic op ≡ true → head_of (op_name op) ≡ Some (heads.Arithmetic op)
unfolding head_of op_named
head_of-arithmetic Ldb t = absurd cc
head_of-arithmetic Ldh t = absurd cc
head_of-arithmetic Ldw t = absurd cc
head_of-arithmetic Ldbx t = absurd cc
head_of-arithmetic Ldhx t = absurd cc
head_of-arithmetic Ldwx t = absurd cc
head_of-arithmetic Add t = refl
head_of-arithmetic Mul t = refl
head_of-arithmetic Div t = refl
head_of-arithmetic And t = refl
head_of-arithmetic Or t = refl
head_of-arithmetic Sh t = absurd cc
head_of-arithmetic Li t = absurd cc
head_of-arithmetic Jmp t = absurd cc
head_of-arithmetic Jeq t = absurd cc
head_of-arithmetic Jne t = absurd cc
head_of-arithmetic Jgt t = absurd cc
head_of-arithmetic Jlt t = absurd cc
head_of-arithmetic Jset t = absurd cc
head_of-arithmetic Jnebs t = absurd cc
head_of-arithmetic Ext t = absurd cc
head_of-arithmetic Lddw t = absurd cc
head_of-arithmetic Stdw t = absurd cc

pub head_of-signed : (op : Op) → is_signed op ≡ true → head_of (op_name op) ≡ Some (heads.Signed op)
unfolding head_of op_named
head_of-signed Ldb t = absurd cc
head_of-signed Ldh t = absurd cc
head_of-signed Ldw t = absurd cc
head_of-signed Ldbx t = absurd cc
head_of-signed Ldhx t = absurd cc
head_of-signed Ldwx t = absurd cc
head_of-signed Add t = absurd cc
head_of-signed Mul t = absurd cc
head_of-signed Div t = absurd cc
head_of-signed And t = absurd cc
head_of-signed Or t = absurd cc
head_of-signed Sh t = absurd cc
head_of-signed Li t = refl
head_of-signed Jmp t = absurd cc
head_of-signed Jeq t = absurd cc
head_of-signed Jne t = absurd cc
head_of-signed Jgt t = absurd cc
head_of-signed Jlt t = absurd cc
head_of-signed Jset t = absurd cc
head_of-signed Jnebs t = absurd cc
head_of-signed Ext t = absurd cc
head_of-signed Lddw t = refl
head_of-signed Stdw t = refl

pub head_of-compare : (op : Op) → is_conditional op ≡ true → head_of (op_name op) ≡ Some (heads.Compare op)
unfolding head_of op_named
head_of-compare Ldb t = absurd cc
head_of-compare Ldh t = absurd cc
head_of-compare Ldw t = absurd cc
head_of-compare Ldbx t = absurd cc
head_of-compare Ldhx t = absurd cc
head_of-compare Ldwx t = absurd cc
head_of-compare Add t = absurd cc
head_of-compare Mul t = absurd cc
head_of-compare Div t = absurd cc
head_of-compare And t = absurd cc
head_of-compare Or t = absurd cc
head_of-compare Sh t = absurd cc
head_of-compare Li t = absurd cc
head_of-compare Jmp t = absurd cc
head_of-compare Jeq t = refl
head_of-compare Jne t = refl
head_of-compare Jgt t = refl
head_of-compare Jlt t = refl
head_of-compare Jset t = refl
head_of-compare Jnebs t = absurd cc
head_of-compare Ext t = absurd cc
head_of-compare Lddw t = absurd cc
head_of-compare Stdw t = absurd cc
