-- The code of items with labels is orderly.
use Rattle.std.proofs.Common.{◌≡◌, ℕ, suc, ◌+◌, ◌-◌, ◌^◌, ◌<◌, ◌≤◌, Bool, true, false, cond, eqb, ltb, List, [], ◌∷◌, ◌++◌, length, take, drop, Some, None, refl, sym, ap, ◌∙◌, append_assoc, arith, inl, inr}
use Rattle.std.specs.Prelude.{All, slice_range, count_by, not, ◌&&◌, ◌||◌, ◌==◌, nat_lt}
use Rattle.std.proofs.Math.Bool.{or-true}
use Rattle.std.proofs.lemmas.Bool.{ltb-false, le-ltb, cases_lt, eq-eqb, ne_eqb}
use Rattle.std.proofs.lemmas.List.{append-nil, take_at, drop_at, length-append}
use Rattle.std.proofs.lemmas.List.Elements.{All-head, All-tail}
use Rattle.std.proofs.lemmas.List.Sums.{sum_by-cons}
use Rattle.apf_coding.specs.declared.instruction.Op.{Op}
use Rattle.apf_coding.specs.declared.instruction.Op.TheVariants.{Ext, Jnebs}
use Rattle.apf_coding.specs.Words.{word}
use Rattle.apf_coding.specs.Jumps.{is_jump}
use Rattle.apf_coding.specs.Instruction.{Instruction, is_counted, is_conditional}
use Rattle.apf_coding.specs.Spelling.{IsWellFormed, Begins, spelling}
use Rattle.apf_asm.specs.declared.item.Item.{Item}
use Rattle.apf_asm.specs.declared.item.Item.TheVariants as items
use Rattle.apf_asm.specs.declared.item.Fixed.{Fixed}
use Rattle.apf_asm.specs.declared.item.Jump.{Jump}
use Rattle.apf_asm.specs.declared.item.Target.{Target}
use Rattle.apf_asm.specs.declared.item.Target.TheVariants as targets
use Rattle.apf_asm.specs.declared.item.AsmError.TheVariants.{TooLong}
use Rattle.apf_asm.specs.Items.{fixed_instruction, jump_instruction, IsItemForm, IsJumpForm, IsLabelled, IsLabelForm, marks}
use Rattle.apf_asm.specs.Layout.{piece, size, total, total_before, offset, code, width_for, item_widths, layout}
use Rattle.apf_asm.specs.Refusals.{stands, refused, refused_from, answer, refusal, too_long}
use Rattle.apf_asm.proofs.Lengths.{length-piece, length-code, length-spelling}
use Rattle.apf_asm.proofs.Law.{Leads}
use Rattle.apf_asm.proofs.Whole.{first_none, offset-le, jump_fits, target_leads}
use Rattle.apf_check.specs.declared.flaw.Flaw.{Flaw}
use Rattle.apf_check.specs.declared.flaw.Flaw.TheVariants.{Past, Backward, Inside}
use Rattle.apf_check.specs.Orderly.{Part, Stand, is_place, is_ext, target, flaw_of, first_flaw, IsOrderly}
use Rattle.apf_check.specs.Assembled.{HasKnownExt, is_instruction}

-- an instruction begins behind what stands before its spelling
begun : (program front rest : List ℕ) (i : Instruction) (at : ℕ) → program ≡ front ++ (spelling i ++ rest) → at ≡ length front → IsWellFormed i → Begins program at i (at + length (spelling i))
begun program front rest i at parts place good =
    let size : length program ≡ at + (length (spelling i) + length rest) = omega (arith, ap length parts, length-append front (spelling i ++ rest), length-append (spelling i) rest) in
    let behind : drop at program ≡ spelling i ++ rest = ap (drop at) parts ∙ drop_at front (spelling i ++ rest) at (sym place) in
    let span : (at + length (spelling i)) - at ≡ length (spelling i) = omega arith in
    let some = length-spelling i in
    let spelled : slice_range program at (at + length (spelling i)) ≡ spelling i = ap (λ (n : ℕ). take n (drop at program)) span ∙ ap (take (length (spelling i))) behind ∙ take_at (spelling i) rest (length (spelling i)) refl in
    record { order = omega arith; within = omega arith; spells = record { well_formed = good; spelled = spelled } }

-- ---- no flaw

nothing_wrong : (a b c d e f : Bool) (u v x y z : Flaw) → a ≡ false → b ≡ false → (c ≡ true → (d ≡ false) × (e ≡ false) × (f ≡ false)) → cond a (Some u) (cond b (Some v) (cond c (cond d (Some x) (cond e (Some y) (cond f (Some z) None))) None)) ≡ None
nothing_wrong true b c d e f u v x y z p q r = absurd cc
nothing_wrong false true c d e f u v x y z p q r = absurd cc
nothing_wrong false false false d e f u v x y z p q r = refl
nothing_wrong false false true d e f u v x y z p q r = let all = r refl in rw (all.0, all.1, all.2) refl

fixed_right : (n : ℕ) (begins : ℕ → Bool) (f : Fixed) (at end : ℕ) → is_jump f.op ≡ false → (f.op ≡ Ext → f.imm ≤ 35) → flaw_of n begins (record { place = at; instruction = fixed_instruction f; end = end }) ≡ None
unfolding flaw_of
fixed_right n begins f at end no_jump known =
    let p : Part = record { place = at; instruction = fixed_instruction f; end = end } in
    nothing_wrong _ _ (is_jump f.op) (nat_lt (n + 1) (target p)) (nat_lt (target p) end) (nat_lt (target p) n && not (begins (target p))) _ _ (Past at) (Backward at) (Inside at) (small f.op f.imm known) (uncounted f.op _ no_jump)
    (λ jumps. apart (is_jump f.op) no_jump jumps)
  where
    apart : {A : Type 0} (b : Bool) → b ≡ false → b ≡ true → A
    apart true e f = absurd cc
    apart false e f = absurd cc

    small : (op : Op) (imm : ℕ) → (op ≡ Ext → imm ≤ 35) → (is_ext op && nat_lt 35 imm) ≡ false
    small Ext imm h = le-ltb 35 imm (h refl)
    small _ imm h = refl

    uncounted : (op : Op) (b : Bool) → is_jump op ≡ false → (is_counted op && b) ≡ false
    uncounted Jnebs b h = absurd cc
    uncounted _ b h = refl

and_not : (a b : Bool) → b ≡ true → (a && not b) ≡ false
and_not true true e = refl
and_not false b e = refl
and_not true false e = absurd cc

and_first : (a b : Bool) → a ≡ false → (a && b) ≡ false
and_first true b e = absurd cc
and_first false b e = refl

-- a jump to a place that stands right
lands_right : (n : ℕ) (begins : ℕ → Bool) (end place t : ℕ) → t ≡ place → end ≤ place → place ≤ n + 1 → (place < n → begins place ≡ true) → (nat_lt (n + 1) t ≡ false) × (nat_lt t end ≡ false) × ((nat_lt t n && not (begins t)) ≡ false)
lands_right n begins end place t e forward near lands = (
  le-ltb (n + 1) t (omega arith),
  le-ltb t end (omega arith),
  elim (cases_lt place n) [
    | inl lt ↦ and_not (nat_lt t n) (begins t) (ap begins e ∙ lands lt)
    | inr ge ↦ and_first (nat_lt t n) _ (le-ltb t n (omega arith))
  ],
)

jump_compares : (op : Op) (reg : ℕ) (bytes : List ℕ) → (is_conditional op ≡ false → reg ≡ 0) → (is_counted op ≡ true → 0 < length bytes) → (is_counted op && (not (reg == 0) || (length bytes == 0))) ≡ false
jump_compares Jnebs reg bytes no_reg some =
    let none : eqb (length bytes) 0 ≡ false = ne_eqb _ _ (λ e. let more = some refl in omega arith) in
    let zero : eqb reg 0 ≡ true = eq-eqb _ _ (no_reg refl) in
    rw (none, zero) refl
jump_compares _ reg bytes no_reg some = refl

no_ext : (op : Op) (imm : ℕ) → is_jump op ≡ true → (is_ext op && nat_lt 35 imm) ≡ false
no_ext Ext imm e = absurd cc
no_ext _ imm e = refl

small_word : (n : ℕ) → n < 2 ^ 32 → word n ≡ n
small_word n lt = omega arith

jump_right : (n : ℕ) (begins : ℕ → Bool) (j : Jump) (w at end o : ℕ) → IsJumpForm j → end + o ≤ n + 1 → n ≤ 65535 → (end + o < n → begins (end + o) ≡ true) → flaw_of n begins (record { place = at; instruction = jump_instruction j w o; end = end }) ≡ None
unfolding flaw_of
jump_right n begins j w at end o form near short lands =
    nothing_wrong _ _ (is_jump j.op) _ _ _ _ _ _ _ _ (no_ext j.op o form.op) (jump_compares j.op j.reg j.bytes form.no_reg form.some_bytes) (λ jumps. lands_right n begins end (end + o) (word (end + o)) (small_word (end + o) (omega arith)) (omega arith) near lands)

-- ---- items behind a front

is_place_here : (code : List ℕ) (parts : List Part) (at to : ℕ) → Stand code at parts to → at < to → is_place parts at ≡ true
is_place_here code [] at to s lt = absurd (omega arith)
is_place_here code (p ∷ parts) at to s lt = let here : eqb p.place at ≡ true = eq-eqb _ _ s.0 in rw here refl

module _ (program : List ℕ) where
  -- their instructions stand to the end, none has a flaw, and where a label stands one begins, if that isn't the end
  record Laid (rest : List Item) (ws : List ℕ) (at : ℕ) : Type 0 where
    pub parts : List Part
    pub stand : Stand program at parts (length program)
    pub right : (begins : ℕ → Bool) → ((k : ℕ) → is_place parts k ≡ true → begins k ≡ true) → first_flaw (length program) begins parts ≡ None
    pub labels : (l : ℕ) → stands l rest ≡ true → at + total_before l rest ws < length program → is_place parts (at + total_before l rest ws) ≡ true
    pub many : length parts ≡ count_by is_instruction rest

  laid_none : (front ws : List ℕ) (at : ℕ) → program ≡ front ++ code [] ws → at ≡ length front → Laid [] ws at
  unfolding code first_flaw stands
  laid_none front ws at e p = record {
    parts = [];
    stand = p ∙ sym (ap length (e ∙ append-nil front));
    right = λ begins all. refl;
    labels = λ l there lt. absurd cc;
    many = refl;
  }

  label_cases : (b : Bool) (l : ℕ) (rest : List Item) (ws : List ℕ) (at : ℕ) (more : Laid rest ws at) → (b || stands l rest) ≡ true → at + cond b 0 (0 + total_before l rest ws) < length program → is_place more.parts (at + cond b 0 (0 + total_before l rest ws)) ≡ true
  label_cases true l rest ws at more there lt =
      let same : at + 0 ≡ at = omega arith in
      ap (is_place more.parts) same ∙ is_place_here program more.parts at (length program) more.stand (omega arith)
  label_cases false l rest ws at more there lt =
      let same : at + (0 + total_before l rest ws) ≡ at + total_before l rest ws = omega arith in
      ap (is_place more.parts) same ∙ more.labels l there (omega arith)

  laid_label : (k w : ℕ) (rest : List Item) (ws : List ℕ) (at : ℕ) → Laid rest ws at → Laid (items.Label k ∷ rest) (w ∷ ws) at
  unfolding stands total_before
  laid_label k w rest ws at more = record {
    parts = more.parts;
    stand = more.stand;
    right = more.right;
    labels = λ l there lt. label_cases (eqb k l) l rest ws at more there lt;
    many = more.many;
  }

  passed : (b : Bool) (l s : ℕ) (rest : List Item) (ws : List ℕ) (at end : ℕ) (p : Part) (more : Laid rest ws end) → b ≡ false → end ≡ at + s → (b || stands l rest) ≡ true → at + cond b 0 (s + total_before l rest ws) < length program → is_place (p ∷ more.parts) (at + cond b 0 (s + total_before l rest ws)) ≡ true
  passed true l s rest ws at end p more none e there lt = absurd cc
  passed false l s rest ws at end p more none e there lt =
      let same : at + (s + total_before l rest ws) ≡ end + total_before l rest ws = omega arith in
      let behind = ap (is_place more.parts) same ∙ more.labels l there (omega arith) in
      let q : ℕ = at + (s + total_before l rest ws) in
      ap (λ (b : Bool). (p.place == q) || b) behind ∙ or-true (p.place == q)

  -- an instruction before them
  laid_op : (item : Item) (w : ℕ) (rest : List Item) (ws : List ℕ) (i : Instruction) (at : ℕ) (more : Laid rest ws (at + length (spelling i))) → Begins program at i (at + length (spelling i)) → size item w ≡ length (spelling i)
      → ((l : ℕ) → marks l item ≡ false) → is_instruction item ≡ true
      → ((begins : ℕ → Bool) → ((k : ℕ) → is_place more.parts k ≡ true → begins k ≡ true) → flaw_of (length program) begins (record { place = at; instruction = i; end = at + length (spelling i) }) ≡ None)
      → Laid (item ∷ rest) (w ∷ ws) at
  unfolding stands total_before first_flaw
  laid_op item w rest ws i at more begun_there size_is no_label spelled fine =
      let p : Part = record { place = at; instruction = i; end = at + length (spelling i) } in
      record {
        parts = p ∷ more.parts;
        stand = (refl, begun_there, more.stand);
        right = λ begins all.
            let later : (k : ℕ) → is_place more.parts k ≡ true → begins k ≡ true = λ k is. all k (ap (λ (b : Bool). (at == k) || b) is ∙ or-true (at == k)) in
            rw (fine begins later) (more.right begins later);
        labels = λ l there lt. passed (marks l item) l (size item w) rest ws at (at + length (spelling i)) p more (no_label l) (ap (λ (n : ℕ). at + n) (sym size_is)) there lt;
        many = counted (is_instruction item) (length more.parts) (count_by is_instruction rest) spelled more.many ∙ sym (sum_by-cons one item rest);
      }
    where
      one : Item → ℕ
      one x = cond (is_instruction x) 1 0

      counted : (b : Bool) (m n : ℕ) → b ≡ true → m ≡ n → suc m ≡ cond b 1 0 + n
      counted true m n e f = omega arith
      counted false m n e f = absurd cc

  behind_is : (front piece rest : List ℕ) → program ≡ front ++ (piece ++ rest) → program ≡ (front ++ piece) ++ rest
  behind_is front piece rest parts = parts ∙ sym (append_assoc front piece rest)

  -- where a jump lands
  target_stands : (rest : List Item) (ws : List ℕ) (to : Target) (end : ℕ) (more : Laid rest ws end) → Leads rest to → length program ≡ end + total rest ws → end + offset rest ws to < length program → is_place more.parts (end + offset rest ws to) ≡ true
  target_stands rest ws (targets.Label l) end more leads size lt = more.labels l leads lt
  target_stands rest ws targets.Pass end more leads size lt = absurd (omega arith)
  target_stands rest ws targets.Drop end more leads size lt = absurd (omega arith)

  laid : (rest : List Item) (k : ℕ) (before : List Item) (front : List ℕ) (at : ℕ) → length program ≤ 65535 → All IsItemForm rest → All IsLabelled rest → All HasKnownExt rest → refused_from k before rest ≡ None
      → program ≡ front ++ code rest (item_widths rest) → at ≡ length front → Laid rest (item_widths rest) at
  unfolding code item_widths refused_from
  laid [] k before front at short forms labelled known ok parts place = laid_none front [] at parts place
  laid (items.Fixed f ∷ rest) k before front at short forms labelled known ok parts place =
      let i = fixed_instruction f in
      let ws : List ℕ = item_widths rest in
      let split = first_none (refused k before rest (items.Fixed f)) (refused_from (k + 1) (before ++ items.Fixed f ∷ []) rest) ok in
      let good = (All-head IsItemForm (items.Fixed f) rest forms).well_formed in
      let next : at + length (spelling i) ≡ length (front ++ spelling i) = omega (arith, length-append front (spelling i)) in
      let more = laid rest (k + 1) (before ++ items.Fixed f ∷ []) (front ++ spelling i) (at + length (spelling i)) short (All-tail IsItemForm (items.Fixed f) rest forms) (All-tail IsLabelled (items.Fixed f) rest labelled) (All-tail HasKnownExt (items.Fixed f) rest known) split.1 (behind_is front (spelling i) (code rest ws) parts) next in
      laid_op (items.Fixed f) 0 rest ws i at more (begun program front (code rest ws) i at parts place good) refl (λ l. refl) refl
      (λ begins all. fixed_right (length program) begins f at (at + length (spelling i)) (All-head IsLabelled (items.Fixed f) rest labelled) (All-head HasKnownExt (items.Fixed f) rest known))
  laid (items.Jump j ∷ rest) k before front at short forms labelled known ok parts place =
      let ws : List ℕ = item_widths rest in
      let o : ℕ = offset rest ws j.to in
      let w : ℕ = width_for j o in
      let i : Instruction = jump_instruction j w o in
      let sizes = length-code rest ws in
      let far = offset-le rest ws j.to in
      let split = first_none (refused k before rest (items.Jump j)) (refused_from (k + 1) (before ++ items.Jump j ∷ []) rest) ok in
      let whole : length program ≡ at + (length (spelling i) + total rest ws) = omega (arith, ap length parts, length-append front (spelling i ++ code rest ws), length-append (spelling i) (code rest ws)) in
      let small : o < 2 ^ 32 = omega arith in
      let form = All-head IsItemForm (items.Jump j) rest forms in
      let good = jump_fits j o form small in
      let same : size (items.Jump j) w ≡ length (spelling i) = sym (length-piece (items.Jump j) w o) in
      let next : at + length (spelling i) ≡ length (front ++ spelling i) = omega (arith, length-append front (spelling i)) in
      let more = laid rest (k + 1) (before ++ items.Jump j ∷ []) (front ++ spelling i) (at + length (spelling i)) short (All-tail IsItemForm (items.Jump j) rest forms) (All-tail IsLabelled (items.Jump j) rest labelled) (All-tail HasKnownExt (items.Jump j) rest known) split.1 (behind_is front (spelling i) (code rest ws) parts) next in
      laid_op (items.Jump j) w rest ws i at more (begun program front (code rest ws) i at parts place good) same (λ l. refl) refl
      (λ begins all. jump_right (length program) begins j w at (at + length (spelling i)) o form (omega arith) short
      (λ lt. all _ (target_stands rest ws j.to (at + length (spelling i)) more (target_leads k before rest j.to split.0) (omega arith) lt)))
  laid (items.Label l ∷ rest) k before front at short forms labelled known ok parts place =
      let split = first_none (refused k before rest (items.Label l)) (refused_from (k + 1) (before ++ items.Label l ∷ []) rest) ok in
      laid_label l 0 rest (item_widths rest) at
      (laid rest (k + 1) (before ++ items.Label l ∷ []) front at short (All-tail IsItemForm (items.Label l) rest forms) (All-tail IsLabelled (items.Label l) rest labelled) (All-tail HasKnownExt (items.Label l) rest known) split.1 parts place)
  laid (items.Byte b ∷ rest) k before front at short forms labelled known ok parts place = absurd (All-head IsLabelled (items.Byte b) rest labelled)

long_cases : (n : ℕ) (b : Bool) → ltb 65535 n ≡ b → cond b (Some (TooLong n)) None ≡ None → n ≤ 65535
long_cases n true t e = absurd cc
long_cases n false t e = ltb-false 65535 n t

pub orderly : (xs : List Item) → All IsItemForm xs → IsLabelForm xs → All HasKnownExt xs → answer xs ≡ None → IsOrderly (layout xs).bytes (count_by is_instruction xs)
orderly xs forms labelled known e =
    let both = first_none (refusal xs) (too_long (length (layout xs).bytes)) e in
    let short = long_cases (length (layout xs).bytes) (ltb 65535 (length (layout xs).bytes)) refl both.1 in
    let l = laid (layout xs).bytes xs 0 [] [] 0 short forms labelled known both.0 refl refl in
    record { parts = l.parts; fill = l.stand; many = l.many; right = l.right (is_place l.parts) (λ k is. is) }
