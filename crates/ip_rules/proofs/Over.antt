-- A fragment that frames of another kind go over.
use Rattle.std.proofs.Common.{◌≡◌, ℕ, ◌+◌, ◌<◌, ◌^◌, false, List, [], ◌∷◌, ◌++◌, refl, arith, lit<, lit≤}
use Rattle.std.proofs.lemmas.List.Sums.{sum_by-cons}
use Rattle.apf_coding.specs.declared.instruction.Op.{Op}
use Rattle.apf_coding.specs.declared.instruction.Op.TheVariants.{Jne}
use Rattle.apf_coding.specs.Jumps.{is_jump}
use Rattle.apf_asm.specs.declared.item.Item.{Item}
use Rattle.apf_asm.specs.declared.item.Item.TheVariants as items
use Rattle.apf_asm.specs.declared.item.Target.TheVariants as targets
use Rattle.apf_asm.specs.Layout.{wide_size}
use Rattle.apf_asm.specs.Building.{load, jump_if}
use Rattle.apf_asm.specs.Fragment.{IsFragment, labels}
use Rattle.apf_asm.proofs.Forms.{stands-here, sound-nil, sound-byte, sound-if_label, sound-label}
use Rattle.apf_asm.proofs.Parts.{fragment-of, fragment-then, sound-fragment}

label_fragment : (l : ℕ) → IsFragment l (l + 1) 0 (items.Label l ∷ [])
unfolding labels
label_fragment l = fragment-of l (l + 1) 0 (items.Label l ∷ []) (sound-label l [] sound-nil) (omega arith) (omega arith, omega arith, tt, tt) (omega arith) (lit≤ tt)

pub over_fragment : (op : Op) (at number from to most : ℕ) (xs : List Item) → is_jump op ≡ false → wide_size (load op at) ≡ 2 → at < 256 → number < 2 ^ 32 → IsFragment from to most xs
    → IsFragment from (to + 1) (11 + most) (load op at ∷ jump_if Jne number (targets.Label to) ∷ (xs ++ (items.Label to ∷ [])))
unfolding labels
over_fragment op at number from to most xs e two lt low x =
    let whole = xs ++ (items.Label to ∷ []) in
    let f : IsFragment from (to + 1) (most + 0) whole = fragment-then from to (to + 1) most 0 xs (items.Label to ∷ []) x (label_fragment to) in
    fragment-of from (to + 1) (11 + most) _
    (sound-byte op 0 at _ e (lit< tt) lt (sound-if_label Jne number to whole refl low (stands-here to xs []) (sound-fragment from (to + 1) (most + 0) whole f)))
    f.rises
    f.fresh
    f.drawn
    (omega (arith, sum_by-cons wide_size (load op at) (jump_if Jne number (targets.Label to) ∷ whole), sum_by-cons wide_size (jump_if Jne number (targets.Label to)) whole, f.short))
