-- Lanes that are closed one after another.
use Rattle.std.proofs.Common.{◌≡◌, ℕ, ◌+◌, ◌-◌, ◌^◌, ◌≤◌, List, [], ◌∷◌, ◌++◌, length, remove, min, refl, sym, ap, subst, ◌∙◌, arith, append_assoc, Option, Some, Result, Ok, Err, ◌⊎◌, inl, inr}
use Rattle.std.proofs.Math.Seq.{drop-append_seam}
use Rattle.std.proofs.lemmas.List.Elements.{All-head, All-drop}
use Rattle.std.proofs.lemmas.List.Sums.{sum_by_push}
use Rattle.std.specs.Prelude.{All, IfOk, slice_get}
use Rattle.program_swap.specs.Driving.{MayEnd, IsEnd, AddsEnd, AreEnded}
use Rattle.program_swap.specs.Histories.{History}
use Rattle.program_swap.specs.Order.{LaneState, EndState}
use Rattle.program_swap.specs.declared.ending.DriveError.{DriveError}
use Rattle.program_swap.specs.declared.ending.DriveError.TheVariants.{NotEntered}
use Rattle.program_swap.proofs.Living.{refused_by}

ended_snoc : (token : Option History) (ls : List LaneState) (es : List EndState) (l : LaneState) (e : EndState) → AreEnded token ls es → IsEnd token l e → AreEnded token (ls ++ l ∷ []) (es ++ e ∷ [])
ended_snoc token [] [] l e h s = (s, tt)
ended_snoc token [] (x ∷ es) l e h s = absurd h
ended_snoc token (x ∷ ls) [] l e h s = absurd h
ended_snoc token (x ∷ ls) (y ∷ es) l e h s = (h.0, ended_snoc token ls es l e h.1 s)

-- some of all lanes are closed, and these are left
pub record Closes (token : Option History) (all left : List LaneState) (ends : Result (List EndState) DriveError) (start now : ℕ) : Type 0 where
  pub done : List LaneState
  pub whole : done ++ left ≡ all
  pub ended : IfOk ends (AreEnded token done)
  pub refused : min (start + refused_by done) (2 ^ 64 - 1) ≤ now
  pub not_entered : ends ≡ Err NotEntered → min (start + 1000) (2 ^ 64 - 1) ≤ now

pub closes-none : (token : Option History) (all : List LaneState) (ends : Result (List EndState) DriveError) (start : ℕ) → ends ≡ Ok [] → Closes token all all ends start start
closes-none token all ends start is = record {
  done = [];
  whole = refl;
  ended = subst (λ (r : Result (List EndState) DriveError). IfOk r (AreEnded token [])) (sym is) tt;
  refused = omega arith;
  not_entered = λ e. absurd (cc (sym is ∙ e));
}

left-front : (left : List LaneState) (l : LaneState) → slice_get left 0 ≡ Some l → left ≡ l ∷ remove left 0
left-front [] l e = absurd (cc e)
left-front (x ∷ xs) l e = let same : x ≡ l = cc e in ap (λ (y : LaneState). y ∷ xs) same

-- the ends go on as those before
next-ended : (token : Option History) (done : List LaneState) (l : LaneState) (before now : Result (List EndState) DriveError) → IfOk before (AreEnded token done) → IfOk now (AddsEnd token l before) → IfOk now (AreEnded token (done ++ l ∷ []))
next-ended token done l before (Err e) h adds = tt
next-ended token done l before (Ok es) h adds =
    let old = subst (λ (r : Result (List EndState) DriveError). IfOk r (AreEnded token done)) adds.were h in
    subst (λ (now : List EndState). AreEnded token (done ++ l ∷ []) now) (sym adds.are) (ended_snoc token done adds.before l adds.end old adds.ended)

pub closes-more : (token : Option History) (all left : List LaneState) (l : LaneState) (before now : Result (List EndState) DriveError) (start places next : ℕ) → slice_get left 0 ≡ Some l → Closes token all left before start places
    → IfOk now (AddsEnd token l before) → min (places + l.refused) (2 ^ 64 - 1) ≤ next → (now ≡ Err NotEntered → (before ≡ Err NotEntered) ⊎ (min (places + 1000) (2 ^ 64 - 1) ≤ next))
    → Closes token all (remove left 0) now start next
closes-more token all left l before now start places next front on adds counted refusal = record {
  done = on.done ++ l ∷ [];
  whole = append_assoc on.done (l ∷ []) (remove left 0) ∙ ap (λ (ls : List LaneState). on.done ++ ls) (sym (left-front left l front)) ∙ on.whole;
  ended = next-ended token on.done l before now on.ended adds;
  refused = omega (arith, counted, on.refused, sum_by_push (λ (t : LaneState). t.refused) on.done l);
  not_entered = λ e. elim (refusal e) [
    | inl was ↦ (let risen = on.not_entered was in omega (arith, risen, counted))
    | inr more ↦ omega (arith, more, on.refused)
  ];
}

-- the next lane may learn the token
pub closes-may : (token : Option History) (all left : List LaneState) (l : LaneState) (ends : Result (List EndState) DriveError) (start now : ℕ) → slice_get left 0 ≡ Some l → Closes token all left ends start now → All (MayEnd token) all → MayEnd token l
closes-may token all left l ends start now front on may =
    let behind = All-drop (MayEnd token) (length on.done) (on.done ++ left) (subst (All (MayEnd token)) (sym on.whole) may) in
    let rest = subst (All (MayEnd token)) (drop-append_seam on.done left ∙ left-front left l front) behind in
    All-head (MayEnd token) l (remove left 0) rest

pub left-length : (left : List LaneState) (l : LaneState) → slice_get left 0 ≡ Some l → length (remove left 0) + 1 ≡ length left
left-length left l front = let e = ap length (left-front left l front) in omega (arith, e)
