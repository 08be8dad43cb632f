-- What the assembler answers.
use Rattle.std.proofs.Common.{◌≡◌, ℕ, ◌+◌, ◌<◌, ◌≤◌, Bool, true, false, cond, ltb, List, [], ◌∷◌, ◌++◌, length, Option, Some, None, Result, Ok, Err, inl, inr, refl, sym, ap, subst, ◌∙◌, arith}
use Rattle.std.specs.Prelude.{All, ◌⊎◌, OnOk}
use Rattle.std.specs.Result.{IfOk, IfErr, IsErrAnd}
use Rattle.std.proofs.lemmas.Bool.{lt-ltb, le-ltb, ltb-true, ltb-false}
use Rattle.apf_asm.specs.declared.item.Item.{Item}
use Rattle.apf_asm.specs.declared.item.Item.TheVariants as items
use Rattle.apf_asm.specs.declared.item.Target.{Target}
use Rattle.apf_asm.specs.declared.item.Target.TheVariants as targets
use Rattle.apf_asm.specs.declared.item.AsmError.{AsmError}
use Rattle.apf_asm.specs.declared.item.AsmError.TheVariants.{Twice, Unknown, Backward, TooLong, OutOfMemory}
use Rattle.apf_asm.specs.declared.emitting.Code.{Code}
use Rattle.apf_asm.specs.Items.{IsItemForm, IsLabelForm}
use Rattle.apf_asm.specs.Layout.{layout, item_widths}
use Rattle.apf_asm.specs.Refusals.{stands, target_refused, refused, first, refused_from, refusal, too_long, answer, ExactlyWhere, IsOverlong}
use Rattle.apf_asm.specs.Correct.{RunsAs}
use Rattle.apf_asm.specs.Spacing.{code_length}
use Rattle.apf_asm.proofs.Lengths.{length-code}
use Rattle.apf_asm.proofs.Whole.{runs_as}
use Rattle.apf_base.specs.Limits.{program_limit}

-- ---- the answer

pub answer_long : (xs : List Item) (n : ℕ) → refusal xs ≡ None → n ≡ code_length xs → program_limit < n → answer xs ≡ Some (TooLong n)
answer_long xs n ok e lt =
    let test : ltb program_limit n ≡ true = lt-ltb _ _ lt in
    ap (λ (r : Option AsmError). first r (too_long (length (layout xs).bytes))) ok ∙ ap too_long (length-code xs (item_widths xs) ∙ sym e) ∙ ap (λ (b : Bool). cond b (Some (TooLong n)) None) test

pub answer_none : (xs : List Item) → refusal xs ≡ None → code_length xs ≤ program_limit → answer xs ≡ None
answer_none xs ok le =
    let n : ℕ = length (layout xs).bytes in
    let test : ltb program_limit n ≡ false = le-ltb _ _ (omega (arith, length-code xs (item_widths xs))) in
    ap (λ (r : Option AsmError). first r (too_long n)) ok ∙ ap (λ (b : Bool). cond b (Some (TooLong n)) None) test

pub answer_first : (xs : List Item) (e : AsmError) → refusal xs ≡ Some e → answer xs ≡ Some e
answer_first xs e r = ap (λ (o : Option AsmError). first o (too_long (length (layout xs).bytes))) r

-- ---- what the answer says

record IsAccepted (xs : List Item) : Type 0 where
  pub labels : refusal xs ≡ None
  pub short : length (layout xs).bytes ≤ program_limit

accepted_cases : (o : Option AsmError) (n : ℕ) (b : Bool) → ltb program_limit n ≡ b → first o (cond b (Some (TooLong n)) None) ≡ None → (o ≡ None) × (n ≤ program_limit)
accepted_cases (Some e) n b test none = absurd cc
accepted_cases None n true test none = absurd cc
accepted_cases None n false test none = (refl, ltb-false program_limit n test)

accepted : (xs : List Item) → answer xs ≡ None → IsAccepted xs
accepted xs none =
    let p = accepted_cases (refusal xs) (length (layout xs).bytes) (ltb program_limit (length (layout xs).bytes)) refl none in
    record { labels = p.0; short = p.1 }

-- a label's refusal is no length
abbrev IsOfLabel : AsmError → Type 0
IsOfLabel (TooLong n) = ⊥
IsOfLabel (Twice i l) = Unit {0}
IsOfLabel (Unknown i l) = Unit {0}
IsOfLabel (Backward i l) = Unit {0}
IsOfLabel OutOfMemory = Unit {0}

abbrev OfLabel : Option AsmError → Type 0
OfLabel (Some e) = IsOfLabel e
OfLabel None = Unit {0}

of_target : (number : ℕ) (before after : List Item) (to : Target) → OfLabel (target_refused number before after to)
of_target number before after (targets.Label l) = go (stands l before) (stands l after)
  where
    go : (b a : Bool) → OfLabel (cond b (Some (Backward number l)) (cond a None (Some (Unknown number l))))
    go true a = tt
    go false true = tt
    go false false = tt
of_target number before after targets.Pass = tt
of_target number before after targets.Drop = tt

of_item : (number : ℕ) (before after : List Item) (x : Item) → OfLabel (refused number before after x)
of_item number before after (items.Label l) = go (stands l before)
  where
    go : (b : Bool) → OfLabel (cond b (Some (Twice number l)) None)
    go true = tt
    go false = tt
of_item number before after (items.Jump j) = of_target number before after j.to
of_item number before after (items.Fixed f) = tt
of_item number before after (items.Byte b) = tt

of_first : (a b : Option AsmError) → OfLabel a → OfLabel b → OfLabel (first a b)
of_first (Some e) b p q = p
of_first None b p q = q

of_label : (number : ℕ) (before rest : List Item) → OfLabel (refused_from number before rest)
unfolding refused_from
of_label number before [] = tt
of_label number before (x ∷ rest) = of_first _ _ (of_item number before rest x) (of_label (number + 1) (before ++ x ∷ []) rest)

label_cases : (o : Option AsmError) (n : ℕ) (b : Bool) (e : AsmError) → IsOfLabel e → first o (cond b (Some (TooLong n)) None) ≡ Some e → o ≡ Some e
label_cases (Some x) n b e label h = h
label_cases None n true e label h = absurd (subst (λ (x : AsmError). IsOfLabel x → ⊥) (some_is h) (λ v. v) label)
  where
    some_is : {x y : AsmError} → ◌≡◌ {A = Option AsmError} (Some x) (Some y) → x ≡ y
    some_is p = cc
label_cases None n false e label h = absurd cc

long_cases : (o : Option AsmError) (n m : ℕ) (b : Bool) → OfLabel o → ltb program_limit n ≡ b → first o (cond b (Some (TooLong n)) None) ≡ Some (TooLong m) → (o ≡ None) × (m ≡ n) × (program_limit < n)
long_cases (Some x) n m b label test h = absurd (subst OfLabel h label)
long_cases None n m true label test h = (refl, cc, ltb-true program_limit n test)
long_cases None n m false label test h = absurd cc

-- ---- the clauses of a result with that answer, but for want of memory

err_is : {T : Type 0} (x e : AsmError) → ◌≡◌ {A = Result T AsmError} (Err x) (Err e) → x ≡ e
err_is x e h = cc

only_where : {T : Type 0} (xs : List Item) (r : Result T AsmError) (e : AsmError) → (e ≡ OutOfMemory → ⊥) → IfErr r (λ x. (x ≡ OutOfMemory) ⊎ (answer xs ≡ Some x)) → r ≡ Err e → answer xs ≡ Some e
only_where xs (Ok c) e other err h = absurd cc
only_where xs (Err x) e other err h = elim err [ inl m ↦ absurd (other (sym (err_is x e h) ∙ m)) | inr a ↦ a ∙ ap (λ (y : AsmError). Some y) (err_is x e h) ]

always_where : {T : Type 0} (xs : List Item) (r : Result T AsmError) (e : AsmError) → OnOk r (answer xs ≡ None) → IfErr r (λ x. (x ≡ OutOfMemory) ⊎ (answer xs ≡ Some x)) → answer xs ≡ Some e → IsErrAnd r (λ x. (x ≡ e) ⊎ (x ≡ OutOfMemory))
always_where xs (Ok c) e ok err h = absurd cc
always_where xs (Err x) e ok err h = elim err [ inl m ↦ inr m | inr a ↦ inl (same (sym a ∙ h)) ]
  where
    same : ◌≡◌ {A = Option AsmError} (Some x) (Some e) → x ≡ e
    same p = cc

pub refused_where : {T : Type 0} (xs : List Item) (r : Result T AsmError) (e : AsmError) → (e ≡ OutOfMemory → ⊥) → IsOfLabel e → OnOk r (answer xs ≡ None) → IfErr r (λ x. (x ≡ OutOfMemory) ⊎ (answer xs ≡ Some x)) → ExactlyWhere (refusal xs ≡ Some e) r e
refused_where xs r e other label ok err = record {
  only = λ h. label_cases (refusal xs) (length (layout xs).bytes) _ e label (only_where xs r e other err h);
  always = λ h. always_where xs r e ok err (answer_first xs e h);
}

pub overlong_where : {T : Type 0} (xs : List Item) (r : Result T AsmError) (n : ℕ) → OnOk r (answer xs ≡ None) → IfErr r (λ x. (x ≡ OutOfMemory) ⊎ (answer xs ≡ Some x)) → ExactlyWhere (IsOverlong xs n) r (TooLong n)
overlong_where xs r n ok err = record {
  only = λ h.
      let p = long_cases (refusal xs) (length (layout xs).bytes) n _ (of_label 0 [] xs) refl (only_where xs r (TooLong n) (λ e. cc) err h) in
      record { labels = p.0; length_is = p.1; long = omega arith };
  always = λ h. always_where xs r (TooLong n) ok err (answer_long xs n h.labels (h.length_is ∙ length-code xs (item_widths xs)) h.long);
}

pub result_runs : (xs : List Item) (r : Result Code AsmError) → All IsItemForm xs → OnOk r (answer xs ≡ None) → IfOk r (λ c. c.bytes ≡ (layout xs).bytes) → IfOk r (λ c. c.places ≡ (layout xs).places) → IfOk r (λ c. IsLabelForm xs → RunsAs xs c.bytes c.places)
result_runs xs (Err e) forms none bytes places = tt
result_runs xs (Ok c) forms none bytes places = λ labelled.
    let a = accepted xs none in
    subst (λ (ps : List ℕ). RunsAs xs c.bytes ps) (sym places) (subst (λ (bs : List ℕ). RunsAs xs bs (layout xs).places) (sym bytes) (runs_as xs forms labelled a.labels a.short))
