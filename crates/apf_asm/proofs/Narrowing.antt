-- Narrowing comes to the layout's widths, and the code is never longer than with wide jumps.
use Rattle.std.proofs.Common.{◌≡◌, ℕ, zero, suc, ◌+◌, ◌<◌, ◌≤◌, Bool, true, false, cond, List, [], ◌∷◌, length, refl, sym, ap, ap₂, subst, ◌∙◌, arith}
use Rattle.std.specs.Prelude.{min, sum_by}
use Rattle.std.proofs.lemmas.List.Sums.{sum_by-cons}
use Rattle.apf_coding.specs.Instruction.{has_second, is_counted}
use Rattle.apf_coding.proofs.Widths.{least-mono}
use Rattle.apf_asm.specs.declared.item.Item.{Item}
use Rattle.apf_asm.specs.declared.item.Item.TheVariants as items
use Rattle.apf_asm.specs.declared.item.Target.{Target}
use Rattle.apf_asm.specs.declared.item.Target.TheVariants as targets
use Rattle.apf_asm.specs.Items.{jump_instruction, marks}
use Rattle.apf_asm.specs.Layout.{size, total, total_before, offset, item_offset, item_width, item_widths, layout, wide_size, wide_length}
use Rattle.apf_asm.specs.Narrowing.{wide_width, narrowed, rounds}
use Rattle.apf_asm.proofs.Lengths.{size-spelling, length-code}
use Rattle.apf_asm.proofs.Spaced.{item_width-le}

-- widths that are each at least those of others
abbrev AtLeast : List ℕ → List ℕ → Type 0
AtLeast [] [] = Unit {0}
AtLeast [] (v ∷ vs) = ⊥
AtLeast (w ∷ ws) [] = ⊥
AtLeast (w ∷ ws) (v ∷ vs) = (v ≤ w) × AtLeast ws vs

-- ---- wider jumps are further apart

tail_mono : (a b : Bool) (v w n : ℕ) → v ≤ w → cond a v 0 + cond b (v + n) 0 ≤ cond a w 0 + cond b (w + n) 0
tail_mono true true v w n le = omega arith
tail_mono true false v w n le = omega arith
tail_mono false true v w n le = omega arith
tail_mono false false v w n le = omega arith

size-mono : (x : Item) (v w : ℕ) → v ≤ w → size x v ≤ size x w
size-mono (items.Jump j) v w le =
    let a = size-spelling (jump_instruction j v 0) in
    let b = size-spelling (jump_instruction j w 0) in
    omega (arith, tail_mono (has_second j.op j.reg) (is_counted j.op) v w (length j.bytes) le)
size-mono (items.Fixed f) v w le = omega arith
size-mono (items.Label l) v w le = omega arith
size-mono (items.Byte b) v w le = omega arith

total-mono : (rest : List Item) (vs ws : List ℕ) → AtLeast ws vs → total rest vs ≤ total rest ws
unfolding total
total-mono [] vs ws at = omega arith
total-mono (x ∷ rest) [] [] at = omega arith
total-mono (x ∷ rest) [] (w ∷ ws) at = absurd at
total-mono (x ∷ rest) (v ∷ vs) [] at = absurd at
total-mono (x ∷ rest) (v ∷ vs) (w ∷ ws) at = omega (arith, size-mono x v w at.0, total-mono rest vs ws at.1)

cond_mono : (b : Bool) (m n : ℕ) → m ≤ n → cond b 0 m ≤ cond b 0 n
cond_mono true m n le = omega arith
cond_mono false m n le = le

before-mono : (l : ℕ) (rest : List Item) (vs ws : List ℕ) → AtLeast ws vs → total_before l rest vs ≤ total_before l rest ws
unfolding total_before
before-mono l [] vs ws at = omega arith
before-mono l (x ∷ rest) [] [] at = omega arith
before-mono l (x ∷ rest) [] (w ∷ ws) at = absurd at
before-mono l (x ∷ rest) (v ∷ vs) [] at = absurd at
before-mono l (x ∷ rest) (v ∷ vs) (w ∷ ws) at =
    let a = size-mono x v w at.0 in
    let b = before-mono l rest vs ws at.1 in
    cond_mono (marks l x) _ _ (omega arith)

offset-mono : (rest : List Item) (vs ws : List ℕ) (to : Target) → AtLeast ws vs → offset rest vs to ≤ offset rest ws to
offset-mono rest vs ws (targets.Label l) at = before-mono l rest vs ws at
offset-mono rest vs ws targets.Pass at = total-mono rest vs ws at
offset-mono rest vs ws targets.Drop at = omega (arith, total-mono rest vs ws at)

width-mono : (x : Item) (rest : List Item) (vs ws : List ℕ) → AtLeast ws vs → item_width x (item_offset x rest vs) ≤ item_width x (item_offset x rest ws)
width-mono (items.Jump j) rest vs ws at =
    let a = least-mono _ _ (offset-mono rest vs ws j.to at) in
    omega arith
width-mono (items.Fixed f) rest vs ws at = omega arith
width-mono (items.Label l) rest vs ws at = omega arith
width-mono (items.Byte b) rest vs ws at = omega arith

width-wide : (x : Item) (o : ℕ) → item_width x o ≤ wide_width x
width-wide (items.Jump j) o = item_width-le (items.Jump j) o
width-wide (items.Fixed f) o = omega arith
width-wide (items.Label l) o = omega arith
width-wide (items.Byte b) o = omega arith

-- ---- the rounds over one item more

abbrev final : Item → List Item → ℕ
final x xs = item_width x (item_offset x xs (item_widths xs))

-- the widths of the rest are final where its rounds are done
record Settles (xs : List Item) : Type 0 where
  pub above : (n : ℕ) → AtLeast (rounds n xs) (item_widths xs)
  pub done : (n : ℕ) → length xs ≤ n → rounds n xs ≡ item_widths xs

record Head (x : Item) (xs : List Item) (n : ℕ) : Type 0 where
  pub width : ℕ
  pub is : rounds n (x ∷ xs) ≡ width ∷ rounds n xs
  pub above : final x xs ≤ width
  pub done : length xs < n → width ≡ final x xs

head : (x : Item) (xs : List Item) → Settles xs → (n : ℕ) → Head x xs n
unfolding rounds narrowed
head x xs s zero = record { width = wide_width x; is = refl; above = width-wide x _; done = λ lt. absurd (omega arith) }
head x xs s (suc n) =
    let h = head x xs s n in
    let needed : ℕ = item_width x (item_offset x xs (rounds n xs)) in
    let above : final x xs ≤ needed = width-mono x xs (item_widths xs) (rounds n xs) (s.above n) in
    record {
      width = min h.width needed;
      is = ap (narrowed (x ∷ xs)) h.is;
      above = omega (arith, h.above);
      done = λ lt.
          let same : needed ≡ final x xs = ap (λ (ws : List ℕ). item_width x (item_offset x xs ws)) (s.done n (omega arith)) in
          omega (arith, h.above);
    }

settles : (xs : List Item) → Settles xs
unfolding item_widths rounds narrowed
settles [] = record { above = none; done = λ n le. is_nil n }
  where
    is_nil : (n : ℕ) → rounds n [] ≡ []
    is_nil zero = refl
    is_nil (suc n) = refl

    none : (n : ℕ) → AtLeast (rounds n []) []
    none zero = tt
    none (suc n) = tt
settles (x ∷ xs) =
    let s = settles xs in
    record {
      above = λ n. let h = head x xs s n in subst (λ (ws : List ℕ). AtLeast ws (item_widths (x ∷ xs))) (sym h.is) (h.above, s.above n);
      done = λ n le. let h = head x xs s n in h.is ∙ ap₂ (λ (w : ℕ) (ws : List ℕ). w ∷ ws) (h.done (omega arith)) (s.done n (omega arith));
    }

-- ---- the laws

pub rounds_end : (xs : List Item) (n : ℕ) → length xs ≤ n → rounds n xs ≡ item_widths xs
rounds_end xs n le = (settles xs).done n le

rounds_stay : (xs : List Item) (n k : ℕ) → rounds (suc n) xs ≡ rounds n xs → rounds (k + n) xs ≡ rounds n xs
unfolding rounds
rounds_stay xs n zero same = ap (λ (m : ℕ). rounds m xs) (omega arith)
rounds_stay xs n (suc k) same =
    let one : suc k + n ≡ suc (k + n) = omega arith in
    ap (λ (m : ℕ). rounds m xs) one ∙ ap (narrowed xs) (rounds_stay xs n k same) ∙ same

pub rounds_same : (xs : List Item) (n : ℕ) → rounds (suc n) xs ≡ rounds n xs → rounds n xs ≡ item_widths xs
rounds_same xs n same = sym (rounds_stay xs n (length xs) same) ∙ rounds_end xs (length xs + n) (omega arith)

total-wide : (xs : List Item) → total xs (item_widths xs) ≤ sum_by wide_size xs
unfolding total item_widths
total-wide [] = omega arith
total-wide (x ∷ xs) = omega (arith, total-wide xs, sum_by-cons wide_size x xs, size-mono x (final x xs) 4 (item_width-le x (item_offset x xs (item_widths xs))))

pub length-code-le : (xs : List Item) → length (layout xs).bytes ≤ wide_length xs
length-code-le xs = omega (arith, length-code xs (item_widths xs), total-wide xs)
