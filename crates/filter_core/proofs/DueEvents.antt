-- The events that are due, one after another.
use Rattle.std.proofs.Common.{◌≡◌, ℕ, suc, get_or, ◌+◌, ◌<◌, ◌≤◌, Bool, true, false, cond, List, [], ◌∷◌, ◌++◌, length, take, drop, fold, sym, ap, ◌∙◌, arith}
use Rattle.std.proofs.Math.Seq.{drop-cons}
use Rattle.std.proofs.lemmas.Grind.{take_at_read}
use Rattle.std.proofs.lemmas.List.{drop_all, take_all, take-append-drop}
use Rattle.std.proofs.lemmas.List.Sums.{fold-append}
use Rattle.policy_state.specs.declared.basis.Timed.{Timed}
use Rattle.policy_state.specs.declared.update.Update.TheVariants as changes
use Rattle.filter_core.specs.Replay.{Course, after_event, after_due, is_due}

due-none : (second : ℕ) (c : Course) (event : Timed) (later : List Timed) → is_due second event ≡ false → after_due second c (event ∷ later) ≡ record c { events = event ∷ later }
due-none second c event later e = ap (λ (t : Bool). cond t (after_due second (after_event c event) later) (record c { events = event ∷ later })) e

due-one : (second : ℕ) (c : Course) (event : Timed) (later : List Timed) → is_due second event ≡ true → after_due second c (event ∷ later) ≡ after_due second (after_event c event) later
due-one second c event later e = ap (λ (t : Bool). cond t (after_due second (after_event c event) later) (record c { events = event ∷ later })) e

-- what stands for an event where there is none
abbrev pub no_event : Timed
no_event = record { time = 0; update = changes.Multicast false }

-- ---- a step for each item of a list

module _ {X : Type 0} (step : Course → X → Course) (c : Course) (items : List X) (i : ℕ) where
  pub fold_one : (d item : X) → i < length items → item ≡ get_or items i d → fold step c (take (i + 1) items) ≡ step (fold step c (take i items)) item
  fold_one d item below is =
      ap (λ (xs : List X). fold step c xs) ((take_at_read items i d below).1 ∙ ap (λ (x : X). take i items ++ x ∷ []) (sym is))
      ∙ fold-append step c (take i items) (item ∷ [])

  pub fold_all : length items ≤ i → fold step c (take i items) ≡ fold step c items
  fold_all past = ap (λ (xs : List X). fold step c xs) (take_all i items past)

  -- and those behind it
  pub fold_rest : (n : ℕ) → fold step c items ≡ fold step (fold step c (take n items)) (drop n items)
  fold_rest n = ap (λ (xs : List X). fold step c xs) (sym (take-append-drop n items)) ∙ fold-append step c (take n items) (drop n items)

-- the items from a place on are the one there and those behind it
item_and_rest : {X : Type 0} (items : List X) (i : ℕ) (d item : X) → i < length items → item ≡ get_or items i d → drop i items ≡ item ∷ drop (i + 1) items
item_and_rest items i d item below is =
    let next : suc i ≡ i + 1 = omega arith in
    drop-cons items i d below ∙ ap (λ (n : ℕ). get_or items i d ∷ drop n items) next ∙ ap (λ x. x ∷ drop (i + 1) items) (sym is)

module _ (second : ℕ) (c : Course) (events : List Timed) (i : ℕ) where
  pub due_step : (d event : Timed) → i < length events → event ≡ get_or events i d → is_due second event ≡ true
      → after_due second (fold after_event c (take i events)) (drop i events) ≡ after_due second (fold after_event c (take (i + 1) events)) (drop (i + 1) events)
  due_step d event below is due =
      let before = fold after_event c (take i events) in
      ap (λ (xs : List Timed). after_due second before xs) (item_and_rest events i d event below is)
      ∙ due-one second before event (drop (i + 1) events) due
      ∙ ap (λ (e : Course). after_due second e (drop (i + 1) events)) (sym (fold_one after_event c events i d event below is))

  pub due_stop : (d event : Timed) → i < length events → event ≡ get_or events i d → is_due second event ≡ false
      → after_due second (fold after_event c (take i events)) (drop i events) ≡ record (fold after_event c (take i events)) { events = drop i events }
  due_stop d event below is due =
      let before = fold after_event c (take i events) in
      let split = item_and_rest events i d event below is in
      ap (λ (xs : List Timed). after_due second before xs) split
      ∙ due-none second before event (drop (i + 1) events) due
      ∙ ap (λ (xs : List Timed). record before { events = xs }) (sym split)

  pub due_all : length events ≤ i → after_due second (fold after_event c (take i events)) (drop i events) ≡ record (fold after_event c (take i events)) { events = drop i events }
  due_all past =
      let before = fold after_event c (take i events) in
      let none = drop_all i events past in
      ap (λ (xs : List Timed). after_due second before xs) none ∙ ap (λ (xs : List Timed). record before { events = xs }) (sym none)
