-- Sizes, and how they sum to the code's length.
use Rattle.std.proofs.Common.{◌≡◌, ℕ, suc, ◌+◌, ◌<◌, ◌≤◌, Bool, true, false, cond, List, [], ◌∷◌, ◌++◌, length, refl, sym, ap, ◌∙◌, arith}
use Rattle.std.specs.Prelude.{◌*◌, All}
use Rattle.std.proofs.Common.{ap₂, inl, inr, drop, get_or}
use Rattle.apf_asm.specs.declared.item.Fixed.{Fixed}
use Rattle.std.proofs.lemmas.List.{length-append, drop_more, drop_all}
use Rattle.std.proofs.lemmas.List.Elements.{All-head, All-tail}
use Rattle.apf_coding.specs.Words.{big_endian}
use Rattle.apf_coding.specs.Instruction.{Instruction, has_second, is_counted}
use Rattle.apf_coding.specs.Spelling.{spelling, second_of, counted_of, IsWidth}
use Rattle.apf_coding.proofs.Numbers.{length-big_endian}
use Rattle.apf_asm.specs.declared.item.Item.{Item}
use Rattle.apf_asm.specs.declared.item.Item.TheVariants as items
use Rattle.apf_asm.specs.declared.item.Jump.{Jump}
use Rattle.apf_asm.specs.Items.{fixed_instruction, jump_instruction, marks, IsItemForm, bytes_limit}
use Rattle.apf_asm.specs.Sizing.{tail_size}
use Rattle.apf_asm.specs.Layout.{piece, size, total, total_before, item_offset, code}

-- a spelling's length
pub length-spelling : (i : Instruction) → length (spelling i) ≡ suc (i.width + (length (second_of i) + length (counted_of i)))
length-spelling i =
    let a = length-append (big_endian i.width i.imm ++ second_of i) (counted_of i) in
    let b = length-append (big_endian i.width i.imm) (second_of i) in
    let c = length-big_endian i.width i.imm in
    omega arith

-- no offset changes a size
pub length-piece : (item : Item) (w o : ℕ) → length (piece item w o) ≡ size item w
length-piece (items.Fixed f) w o = refl
length-piece (items.Jump j) w o = length-spelling (jump_instruction j w o) ∙ sym (length-spelling (jump_instruction j w 0))
length-piece (items.Label l) w o = refl
length-piece (items.Byte b) w o = refl

pub length-code : (rest : List Item) (ws : List ℕ) → length (code rest ws) ≡ total rest ws
unfolding code total
length-code [] ws = refl
length-code (item ∷ rest) [] = refl
length-code (item ∷ rest) (w ∷ ws) =
    let a = length-append (piece item w (item_offset item rest ws)) (code rest ws) in
    let b = length-piece item w (item_offset item rest ws) in
    let c = length-code rest ws in
    omega arith

before_cases : (b : Bool) (s t u : ℕ) → t ≤ u → cond b 0 (s + t) ≤ s + u
before_cases true s t u le = omega arith
before_cases false s t u le = omega arith

pub before-le : (l : ℕ) (rest : List Item) (ws : List ℕ) → total_before l rest ws ≤ total rest ws
unfolding total total_before
before-le l [] ws = omega arith
before-le l (item ∷ rest) [] = omega arith
before-le l (item ∷ rest) (w ∷ ws) = before_cases (marks l item) (size item w) _ _ (before-le l rest ws)

-- ---- a size by its parts

second_length : (b : Bool) (w n : ℕ) → length (cond b (big_endian w n) []) ≡ cond b w 0
second_length true w n = length-big_endian w n
second_length false w n = refl

counted_length : (b : Bool) (w : ℕ) (bytes : List ℕ) → length (cond b (big_endian w (length bytes) ++ bytes) []) ≡ cond b (w + length bytes) 0
counted_length true w bytes = omega (arith, length-append (big_endian w (length bytes)) bytes, length-big_endian w (length bytes))
counted_length false w bytes = refl

pub size-spelling : (i : Instruction) → length (spelling i) ≡ 1 + i.width + tail_size i.op i.reg i.width (length i.bytes)
size-spelling i =
    let a = length-spelling i in
    let b = second_length (has_second i.op i.reg) i.width i.second in
    let c = counted_length (is_counted i.op) i.width i.bytes in
    omega arith

tail_cases : (a b : Bool) (w n : ℕ) → w ≤ 4 → n ≤ bytes_limit → cond a w 0 + cond b (w + n) 0 ≤ 65543
tail_cases true true w n le few = omega arith
tail_cases true false w n le few = omega arith
tail_cases false true w n le few = omega arith
tail_cases false false w n le few = omega arith

width-le : (w : ℕ) → IsWidth w → w ≤ 4
width-le w width = elim width [ inl p ↦ omega arith | inr (inl p) ↦ omega arith | inr (inr (inl p)) ↦ omega arith | inr (inr (inr p)) ↦ omega arith ]

pub size-small : (item : Item) (w : ℕ) → IsItemForm item → w ≤ 4 → size item w ≤ 65548
size-small (items.Fixed f) w form le =
    let four = width-le f.width form.well_formed.width in
    omega (arith, size-spelling (fixed_instruction f), tail_cases (has_second f.op f.reg) (is_counted f.op) f.width (length f.bytes) four form.short)
size-small (items.Jump j) w form le = omega (arith, size-spelling (jump_instruction j w 0), tail_cases (has_second j.op j.reg) (is_counted j.op) w (length j.bytes) le form.short)
size-small (items.Label l) w form le = omega arith
size-small (items.Byte b) w form le = omega arith

pub total-small : (rest : List Item) (ws : List ℕ) → All IsItemForm rest → All (λ w. w ≤ 4) ws → total rest ws ≤ 65548 * length rest
unfolding total
total-small [] ws forms narrow = omega arith
total-small (item ∷ rest) [] forms narrow = omega arith
total-small (item ∷ rest) (w ∷ ws) forms narrow =
    let a = size-small item w (All-head IsItemForm item rest forms) (All-head (λ w. w ≤ 4) w ws narrow) in
    let b = total-small rest ws (All-tail IsItemForm item rest forms) (All-tail (λ w. w ≤ 4) w ws narrow) in
    omega arith

-- the items from one on
pub total_more : (xs : List Item) (ws : List ℕ) (i : ℕ) (d : Item) → i < length xs → length ws ≡ length xs → total (drop i xs) (drop i ws) ≡ size (get_or xs i d) (get_or ws i 0) + total (drop (i + 1) xs) (drop (i + 1) ws)
unfolding total
total_more xs ws i d lt e = ap₂ total (drop_more xs i d lt) (drop_more ws i 0 (omega arith))

pub total_none : (xs : List Item) (ws : List ℕ) (i : ℕ) → length xs ≤ i → total (drop i xs) (drop i ws) ≡ 0
unfolding total
total_none xs ws i le = ap (λ (t : List Item). total t (drop i ws)) (drop_all i xs le)

pub size_fixed : (item : Item) (f : Fixed) (w a b n : ℕ) → item ≡ items.Fixed f → a ≡ f.width → b ≡ tail_size f.op f.reg f.width n → n ≡ length f.bytes → 1 + a + b ≡ size item w
size_fixed item f w a b n is p q r =
    let same : b ≡ tail_size f.op f.reg f.width (length f.bytes) = q ∙ ap (tail_size f.op f.reg f.width) r in
    rw is (omega (arith, size-spelling (fixed_instruction f)))

pub size_jump : (item : Item) (j : Jump) (w a b n : ℕ) → item ≡ items.Jump j → a ≡ w → b ≡ tail_size j.op j.reg w n → n ≡ length j.bytes → 1 + a + b ≡ size item w
size_jump item j w a b n is p q r =
    let same : b ≡ tail_size j.op j.reg w (length j.bytes) = q ∙ ap (tail_size j.op j.reg w) r in
    rw is (omega (arith, size-spelling (jump_instruction j w 0)))
