-- One item more is emitted.
use Rattle.std.proofs.Common.{◌≡◌, ℕ, zero, suc, ◌+◌, ◌^◌, ◌<◌, ◌≤◌, List, [], ◌∷◌, ◌++◌, length, drop, get_or, refl, sym, ap, ap₂, subst, ◌∙◌, arith, append_assoc}
use Rattle.std.specs.Prelude.{All}
use Rattle.std.proofs.lemmas.List.{length-append, drop_all, append-nil}
use Rattle.std.proofs.lemmas.List.Elements.{All-get_or}
use Rattle.apf_asm.specs.declared.item.Item.{Item}
use Rattle.apf_asm.specs.declared.item.Item.TheVariants as items
use Rattle.apf_asm.specs.Items.{IsItemForm}
use Rattle.apf_asm.specs.Layout.{piece, size, IsFit, total, item_offset, item_width, item_widths, item_offsets, code, places, own_width, jump_widths, layout}
use Rattle.apf_asm.specs.Spacing.{code_length}
use Rattle.apf_asm.proofs.Here.{drop_here}
use Rattle.apf_asm.proofs.Lengths.{length-piece, length-code}
use Rattle.apf_asm.proofs.Whole.{jump_fits, offset-le}
use Rattle.apf_base.specs.Limits.{program_limit}

-- ---- the width and the offset of an item

abbrev offset_here : List Item → ℕ → Item → ℕ
offset_here xs i x = item_offset x (drop (i + 1) xs) (item_widths (drop (i + 1) xs))

width_at : (xs : List Item) (i : ℕ) (x : Item) → i < length xs → x ≡ get_or xs i x → get_or (item_widths xs) i 0 ≡ item_width x (offset_here xs i x)
unfolding item_widths
width_at [] i x lt is = absurd (omega arith)
width_at (y ∷ xs) zero x lt is = ap (λ (z : Item). item_width z (item_offset z xs (item_widths xs))) (sym is)
width_at (y ∷ xs) (suc i) x lt is =
    let next : suc (i + 1) ≡ suc i + 1 = omega arith in
    width_at xs i x (omega arith) is ∙ ap (λ (k : ℕ). item_width x (item_offset x (drop k (y ∷ xs)) (item_widths (drop k (y ∷ xs))))) next

offset_at : (xs : List Item) (i : ℕ) (x : Item) → i < length xs → x ≡ get_or xs i x → get_or (item_offsets xs) i 0 ≡ offset_here xs i x
unfolding item_offsets
offset_at [] i x lt is = absurd (omega arith)
offset_at (y ∷ xs) zero x lt is = ap (λ (z : Item). item_offset z xs (item_widths xs)) (sym is)
offset_at (y ∷ xs) (suc i) x lt is =
    let next : suc (i + 1) ≡ suc i + 1 = omega arith in
    offset_at xs i x (omega arith) is ∙ ap (λ (k : ℕ). item_offset x (drop k (y ∷ xs)) (item_widths (drop k (y ∷ xs)))) next

pub length-item_offsets : (xs : List Item) → length (item_offsets xs) ≡ length xs
unfolding item_offsets
length-item_offsets [] = refl
length-item_offsets (x ∷ xs) = ap suc (length-item_offsets xs)

-- ---- its spelling fits

code_length-drop-le : (xs : List Item) (i : ℕ) → code_length (drop i xs) ≤ code_length xs
unfolding total item_widths
code_length-drop-le xs zero = omega arith
code_length-drop-le [] (suc i) = omega arith
code_length-drop-le (x ∷ xs) (suc i) = omega (arith, code_length-drop-le xs i)

item_offset-le : (x : Item) (rest : List Item) (ws : List ℕ) → item_offset x rest ws ≤ total rest ws + 1
item_offset-le (items.Jump j) rest ws = offset-le rest ws j.to
item_offset-le (items.Fixed f) rest ws = omega arith
item_offset-le (items.Label l) rest ws = omega arith
item_offset-le (items.Byte b) rest ws = omega arith

item_fits : (x : Item) (o : ℕ) → IsItemForm x → o < 2 ^ 32 → IsFit x (item_width x o) o
item_fits (items.Jump j) o form lt = jump_fits j o form lt
item_fits (items.Fixed f) o form lt = form.well_formed
item_fits (items.Label l) o form lt = tt
item_fits (items.Byte b) o form lt = tt

-- what is read at an item
pub record Reads (xs : List Item) (i : ℕ) (x : Item) (w o : ℕ) : Type 0 where
  pub width_is : w ≡ item_width x o
  pub offset_is : o ≡ offset_here xs i x
  pub small : o < 2 ^ 32
  pub fit : IsFit x w o

pub reads : (xs : List Item) (i : ℕ) (x : Item) (ws os : List ℕ) → All IsItemForm xs → ws ≡ item_widths xs → os ≡ item_offsets xs → code_length xs ≤ program_limit → i < length xs → x ≡ get_or xs i x → Reads xs i x (get_or ws i 0) (get_or os i 0)
reads xs i x ws os forms same_widths same_offsets short lt is =
    let o : get_or os i 0 ≡ offset_here xs i x = ap (λ (v : List ℕ). get_or v i 0) same_offsets ∙ offset_at xs i x lt is in
    let w : get_or ws i 0 ≡ item_width x (get_or os i 0) = ap (λ (v : List ℕ). get_or v i 0) same_widths ∙ width_at xs i x lt is ∙ ap (item_width x) (sym o) in
    let form : IsItemForm x = subst IsItemForm (sym is) (All-get_or IsItemForm xs i x lt forms) in
    let small : get_or os i 0 < 2 ^ 32 = omega (arith, item_offset-le x (drop (i + 1) xs) (item_widths (drop (i + 1) xs)), code_length-drop-le xs (i + 1)) in
    record { width_is = w; offset_is = o; small = small; fit = subst (λ (v : ℕ). IsFit x v (get_or os i 0)) (sym w) (item_fits x _ form small) }

-- ---- the items before one are emitted

-- the bytes alone
abbrev pub BytesEmitted : List Item → ℕ → List ℕ → Type 0
BytesEmitted xs i bs = bs ++ (layout (drop i xs)).bytes ≡ (layout xs).bytes

pub record Emitted (xs : List Item) (i : ℕ) (bs ps vs : List ℕ) : Type 0 where
  pub bytes : BytesEmitted xs i bs
  pub places : ps ++ places (length bs) (drop i xs) (item_widths (drop i xs)) ≡ (layout xs).places
  pub widths : vs ++ (layout (drop i xs)).widths ≡ (layout xs).widths

appended : (a b : List ℕ) (old new rest : List ℕ) → new ≡ old ++ a → b ≡ a ++ rest → new ++ rest ≡ old ++ b
appended a b old new rest e f = ap (λ (t : List ℕ). t ++ rest) e ∙ append_assoc old a rest ∙ ap (λ (t : List ℕ). old ++ t) (sym f)

pub bytes_more : (xs : List Item) (i : ℕ) (x : Item) (w o : ℕ) (bs more : List ℕ) → i < length xs → x ≡ get_or xs i x → Reads xs i x w o → BytesEmitted xs i bs → more ≡ bs ++ piece x w o → BytesEmitted xs (i + 1) more
unfolding code item_widths
bytes_more xs i x w o bs more lt is r e b =
    let rest : List Item = drop (i + 1) xs in
    let ws : List ℕ = item_widths rest in
    let width : w ≡ item_width x (item_offset x rest ws) = r.width_is ∙ ap (item_width x) r.offset_is in
    appended (piece x w o) _ bs more _ b (ap (λ (t : List Item). (layout t).bytes) (drop_here xs i x lt is) ∙ ap₂ (λ (a b : ℕ). piece x a b ++ code rest ws) (sym width) (sym r.offset_is)) ∙ e

pub emitted_more : (xs : List Item) (i : ℕ) (x : Item) (w o : ℕ) (bs ps vs more_bs more_ps more_vs : List ℕ) → i < length xs → x ≡ get_or xs i x → Reads xs i x w o → Emitted xs i bs ps vs
    → more_bs ≡ bs ++ piece x w o → more_ps ≡ ps ++ length bs ∷ [] → more_vs ≡ vs ++ own_width x w → Emitted xs (i + 1) more_bs more_ps more_vs
unfolding code places jump_widths item_widths
emitted_more xs i x w o bs ps vs more_bs more_ps more_vs lt is r e b p v =
    let rest : List Item = drop (i + 1) xs in
    let ws : List ℕ = item_widths rest in
    let cut = drop_here xs i x lt is in
    let width : w ≡ item_width x (item_offset x rest ws) = r.width_is ∙ ap (item_width x) r.offset_is in
    let next : length more_bs ≡ length bs + size x w = ap length b ∙ omega (arith, length-append bs (piece x w o), length-piece x w o) in
    record {
      bytes = bytes_more xs i x w o bs more_bs lt is r e.bytes b;
      places = appended (length bs ∷ []) _ ps more_ps _ p (ap (λ (t : List Item). places (length bs) t (item_widths t)) cut ∙ ap (λ (a : ℕ). length bs ∷ places (length bs + size x a) rest ws) (sym width) ∙ ap (λ (n : ℕ). length bs ∷ places n rest ws) (sym next)) ∙ e.places;
      widths = appended (own_width x w) _ vs more_vs _ v (ap (λ (t : List Item). (layout t).widths) cut ∙ ap (λ (a : ℕ). own_width x a ++ jump_widths rest ws) (sym width)) ∙ e.widths;
    }

pub emitted_short : (xs : List Item) (i : ℕ) (bs ps vs : List ℕ) → Emitted xs i bs ps vs → code_length xs ≤ program_limit → length bs < 2 ^ 32
emitted_short xs i bs ps vs e short =
    omega (arith, ap length e.bytes, length-append bs (layout (drop i xs)).bytes, length-code xs (item_widths xs))

-- ---- all items are emitted

pub record IsLayout (xs : List Item) (bs ps vs : List ℕ) : Type 0 where
  pub bytes : bs ≡ (layout xs).bytes
  pub places : ps ≡ (layout xs).places
  pub widths : vs ≡ (layout xs).widths

pub bytes_end : (xs : List Item) (i : ℕ) (bs : List ℕ) → length xs ≤ i → BytesEmitted xs i bs → bs ≡ (layout xs).bytes
unfolding code
bytes_end xs i bs le e = sym (append-nil bs) ∙ ap (λ (t : List Item). bs ++ (layout t).bytes) (sym (drop_all i xs le)) ∙ e

pub emitted_end : (xs : List Item) (i : ℕ) (bs ps vs : List ℕ) → length xs ≤ i → Emitted xs i bs ps vs → IsLayout xs bs ps vs
unfolding code places jump_widths
emitted_end xs i bs ps vs le e =
    let cut = drop_all i xs le in
    record {
      bytes = bytes_end xs i bs le e.bytes;
      places = sym (append-nil ps) ∙ ap (λ (t : List Item). ps ++ places (length bs) t (item_widths t)) (sym cut) ∙ e.places;
      widths = sym (append-nil vs) ∙ ap (λ (t : List Item). vs ++ (layout t).widths) (sym cut) ∙ e.widths;
    }
