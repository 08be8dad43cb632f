-- What is assembled from the items of a whole program.
use Rattle.std.proofs.Common.{◌≡◌, ℕ, ◌+◌, ◌≤◌, List, length, Some, refl, sym, ap, subst, ◌∙◌, arith}
use Rattle.std.specs.Prelude.{All}
use Rattle.apf_asm.specs.declared.item.AsmError.{AsmError}
use Rattle.apf_asm.specs.declared.item.Item.{Item}
use Rattle.apf_asm.specs.Items.{IsItemForm, item_limit}
use Rattle.apf_asm.specs.Layout.{layout}
use Rattle.apf_asm.specs.Refusals.{refusal, IsOverlong}
use Rattle.policy_state.specs.declared.basis.Basis.{Basis}
use Rattle.apf_generate.specs.Listing.{between_ends}
use Rattle.apf_generate.specs.Means.{Means}
use Rattle.apf_generate.specs.Program.{most_asked, IsProgram}
use Rattle.apf_coding.specs.Words.{AreBytes}
use Rattle.apf_generate.specs.Sizes.{need_of}
use Rattle.size_fit.specs.Sizes.{limit_of}
use Rattle.apf_generate.proofs.AnyProgram.{forms, labelled, few_items, length-bytes, means_of, not_refused}
use Rattle.apf_generate.proofs.LayoutBytes.{bytes-layout}
use Rattle.policy_state.specs.Limits.{capacity_most, denied_most}
use Rattle.policy_state.specs.Rooms.{ends_room}

module _ (basis : Basis) (xs : List Item) (few : length basis.config.deny ≤ denied_most) (most : basis.config.capacity ≤ capacity_most) (p : IsProgram basis xs) (fits : need_of basis ≤ limit_of basis.config) where
  small : most_asked basis ≤ 65000
  small = omega (arith, few, most, fits)

  pub items_formed : All IsItemForm xs
  items_formed = subst (λ (ys : List Item). All IsItemForm ys) (sym p.whole) (forms basis p.holds.to _ p.questions p.holds.part small)

  pub items_few : length xs ≤ item_limit
  items_few = subst (λ (ys : List Item). length ys ≤ item_limit) (sym p.whole) (few_items basis p.holds.to _ p.questions p.holds.part small p.holds.few)

  code_is : (code : List ℕ) → code ≡ (layout xs).bytes → code ≡ (layout (between_ends p.questions)).bytes
  code_is code e = e ∙ ap (λ (ys : List Item). (layout ys).bytes) p.whole

  pub code_means : (code : List ℕ) → code ≡ (layout xs).bytes → Means code basis
  code_means code e = subst (λ (c : List ℕ). Means c basis) (sym (code_is code e)) (means_of basis p.holds.to _ p.questions p.holds.part small)

  length-code : (code : List ℕ) → code ≡ (layout xs).bytes → length code ≤ most_asked basis + ends_room
  length-code code e = omega (arith, ap length (code_is code e), length-bytes basis p.holds.to _ p.questions p.holds.part small)

  pub code_short : (code : List ℕ) → code ≡ (layout xs).bytes → length code ≤ need_of basis
  code_short code e = omega (arith, length-code code e)

  pub code_bytes : (code : List ℕ) → code ≡ (layout xs).bytes → AreBytes code
  code_bytes code e =
      subst AreBytes (sym (code_is code e))
      (bytes-layout (between_ends p.questions) (forms basis p.holds.to _ p.questions p.holds.part small) (labelled basis p.holds.to _ p.questions p.holds.part small))

  -- no label is refused, and the code isn't too long
  pub none_refused : (error : AsmError) → refusal xs ≡ Some error → ⊥
  none_refused error e =
      let ok = not_refused basis p.holds.to _ p.questions p.holds.part small in
      let same : refusal xs ≡ refusal (between_ends p.questions) = ap refusal p.whole in
      cc

  pub not_overlong : (bytes : ℕ) → IsOverlong xs bytes → ⊥
  not_overlong bytes long = omega (arith, long.long, long.length_is, length-code (layout xs).bytes refl)
