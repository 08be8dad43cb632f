-- An assembled code is listed as its instructions.
use Rattle.std.proofs.Common.{◌≡◌, ℕ, ◌+◌, ◌-◌, ◌^◌, ◌<◌, ◌≤◌, Bool, true, false, cond, ltb, List, [], ◌∷◌, ◌++◌, length, take, drop, Some, None, refl, sym, ap, subst, ◌∙◌, append_assoc, arith}
use Rattle.std.specs.Prelude.{All, slice_range}
use Rattle.std.proofs.lemmas.Bool.{ltb-false}
use Rattle.std.proofs.lemmas.List.{append-nil, take_at, drop_at, length-append}
use Rattle.std.proofs.lemmas.List.Elements.{All-head, All-tail}
use Rattle.apf_coding.specs.Instruction.{Instruction}
use Rattle.apf_coding.specs.Spelling.{IsWellFormed, Begins, spelling}
use Rattle.apf_asm.specs.declared.item.Item.{Item}
use Rattle.apf_asm.specs.declared.item.Item.TheVariants as items
use Rattle.apf_asm.specs.declared.item.AsmError.TheVariants.{TooLong}
use Rattle.apf_asm.specs.Items.{fixed_instruction, jump_instruction, IsItemForm}
use Rattle.apf_asm.specs.Layout.{piece, size, offset, code, width_for, item_widths, places, layout}
use Rattle.apf_asm.specs.Refusals.{answer, refusal, too_long}
use Rattle.apf_asm.proofs.Lengths.{length-piece, length-code}
use Rattle.apf_asm.proofs.Whole.{first_none, offset-le, jump_fits}
use Rattle.apf_disasm.specs.Listing as listing
use Rattle.apf_disasm.specs.Listing.{ListingEntry, Lists, IsListing}
use Rattle.apf_disasm.specs.Assembled.{IsNoByte, instructions_from, instructions_of}
use Rattle.apf_base.specs.Limits.{program_limit}

-- an instruction begins behind what stands before its spelling
begun : (program front rest : List ℕ) (i : Instruction) (at : ℕ) → program ≡ front ++ (spelling i ++ rest) → at ≡ length front → IsWellFormed i → Begins program at i (at + length (spelling i))
begun program front rest i at parts place good =
    let size : length program ≡ at + (length (spelling i) + length rest) = let n : ℕ = length rest in omega (arith, ap length parts, length-append front (spelling i ++ rest), length-append (spelling i) rest) in
    let behind : drop at program ≡ spelling i ++ rest = ap (drop at) parts ∙ drop_at front (spelling i ++ rest) at (sym place) in
    let span : (at + length (spelling i)) - at ≡ length (spelling i) = omega arith in
    let some : 0 < length (spelling i) = omega arith in
    let spelled : slice_range program at (at + length (spelling i)) ≡ spelling i = ap (λ (n : ℕ). take n (drop at program)) span ∙ ap (take (length (spelling i))) behind ∙ take_at (spelling i) rest (length (spelling i)) refl in
    record { order = omega arith; within = omega arith; spells = record { well_formed = good; spelled = spelled } }

-- the instruction of an item stands there, and what follows goes on behind it
listed_op : (program front rest : List ℕ) (i : Instruction) (at next : ℕ) (later : List ListingEntry) → program ≡ front ++ (spelling i ++ rest) → at ≡ length front → next ≡ at + length (spelling i) → IsWellFormed i → Lists program next later → Lists program at (listing.Op at i ∷ later)
listed_op program front rest i at next later parts place after good more =
    (refl, (at + length (spelling i), begun program front rest i at parts place good, subst (λ (n : ℕ). Lists program n later) after more))

behind_is : (program front piece rest : List ℕ) → program ≡ front ++ (piece ++ rest) → program ≡ (front ++ piece) ++ rest
behind_is program front piece rest parts = parts ∙ sym (append_assoc front piece rest)

pub relisted : (program front : List ℕ) (rest : List Item) (at : ℕ) → length program ≤ program_limit → All IsItemForm rest → All IsNoByte rest → program ≡ front ++ code rest (item_widths rest) → at ≡ length front → Lists program at (instructions_from rest (item_widths rest) (places at rest (item_widths rest)))
unfolding code item_widths instructions_from places
relisted program front [] at long forms none parts place = place ∙ sym (ap length (parts ∙ append-nil front))
relisted program front (items.Fixed f ∷ rest) at long forms none parts place =
    let i = fixed_instruction f in
    let ws : List ℕ = item_widths rest in
    let good = (All-head IsItemForm (items.Fixed f) rest forms).well_formed in
    let next : at + length (spelling i) ≡ length (front ++ spelling i) = omega (arith, length-append front (spelling i)) in
    listed_op program front (code rest ws) i at (at + length (spelling i)) (instructions_from rest ws (places (at + length (spelling i)) rest ws)) parts place refl good
    (relisted program (front ++ spelling i) rest (at + length (spelling i)) long (All-tail IsItemForm (items.Fixed f) rest forms) (All-tail IsNoByte (items.Fixed f) rest none) (behind_is program front (spelling i) (code rest ws) parts) next)
relisted program front (items.Jump j ∷ rest) at long forms none parts place =
    let ws : List ℕ = item_widths rest in
    let o : ℕ = offset rest ws j.to in
    let w : ℕ = width_for j o in
    let i : Instruction = jump_instruction j w o in
    let sizes = length-code rest ws in
    let far = offset-le rest ws j.to in
    let whole = ap length parts in
    let small : o < 2 ^ 32 = omega (arith, length-append front (spelling i ++ code rest ws), length-append (spelling i) (code rest ws)) in
    let good = jump_fits j o (All-head IsItemForm (items.Jump j) rest forms) small in
    let same : size (items.Jump j) w ≡ length (spelling i) = sym (length-piece (items.Jump j) w o) in
    let after : at + size (items.Jump j) w ≡ at + length (spelling i) = ap (λ (n : ℕ). at + n) same in
    let next : at + size (items.Jump j) w ≡ length (front ++ spelling i) = omega (arith, length-append front (spelling i)) in
    listed_op program front (code rest ws) i at (at + size (items.Jump j) w) (instructions_from rest ws (places (at + size (items.Jump j) w) rest ws)) parts place after good
    (relisted program (front ++ spelling i) rest (at + size (items.Jump j) w) long (All-tail IsItemForm (items.Jump j) rest forms) (All-tail IsNoByte (items.Jump j) rest none) (behind_is program front (spelling i) (code rest ws) parts) next)
relisted program front (items.Label l ∷ rest) at long forms none parts place =
    let same : at + 0 ≡ at = omega arith in
    subst (λ (n : ℕ). Lists program at (instructions_from rest (item_widths rest) (places n rest (item_widths rest)))) (sym same)
    (relisted program front rest at long (All-tail IsItemForm (items.Label l) rest forms) (All-tail IsNoByte (items.Label l) rest none) parts place)
relisted program front (items.Byte b ∷ rest) at long forms none parts place = absurd (All-head IsNoByte (items.Byte b) rest none)

long_cases : (n : ℕ) (b : Bool) → ltb program_limit n ≡ b → cond b (Some (TooLong n)) None ≡ None → n ≤ program_limit
long_cases n true t e = absurd cc
long_cases n false t e = ltb-false program_limit n t

pub assembled_listed : (xs : List Item) → All IsItemForm xs → All IsNoByte xs → answer xs ≡ None → IsListing (layout xs).bytes (instructions_of xs)
assembled_listed xs forms none e =
    let parts = first_none (refusal xs) (too_long (length (layout xs).bytes)) e in
    let long = long_cases (length (layout xs).bytes) (ltb program_limit (length (layout xs).bytes)) refl parts.1 in
    relisted (layout xs).bytes [] xs 0 long forms none refl refl
