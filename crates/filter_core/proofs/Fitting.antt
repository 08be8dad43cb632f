-- The number of records that have room is the longest prefix that fits.
use Rattle.std.proofs.Common.{◌≡◌, ℕ, zero, suc, ◌+◌, ◌-◌, ◌<◌, ◌≤◌, Bool, true, false, cond, leb, List, [], ◌∷◌, length, map, take, refl, sym, ap, ◌∙◌, arith, le-leb, leb-true, leb-false, lit<, ◌++◌, drop, subst}
use Rattle.std.proofs.lemmas.Bool.{lt-leb}
use Rattle.std.proofs.lemmas.List.{map-append, take-append-drop}
use Rattle.std.specs.List.{sum_by}
use Rattle.std.proofs.lemmas.List.Sums.{sum_by-cons}
use Rattle.policy_state.specs.declared.basis.Chosen.{Chosen}
use Rattle.ra_records.specs.declared.replies.Held.{Held}
use Rattle.size_fit.specs.Choosing.{need_with, IsLongestThatFits}
use Rattle.size_fit.specs.Sizes.{weight}
use Rattle.policy_state.specs.declared.config.Config.{Config}
use Rattle.policy_state.specs.declared.state.FilterState.{FilterState}
use Rattle.filter_core.specs.Installs.{kept, install_of, fitting, chosen_at}
use Rattle.filter_core.specs.Records.{ids_of}

abbrev weights : List Held → ℕ
weights records = sum_by (λ held. weight held.advert) records

weights-cons : (held : Held) (later : List Held) → weights (held ∷ later) ≡ weight held.advert + weights later
weights-cons held later = sum_by-cons (λ (h : Held). weight h.advert) held later

pub weights_chosen : (now : ℕ) (records : List Held) → sum_by (λ (chosen : Chosen). weight chosen.advert) (map (chosen_at now) records) ≡ weights records
weights_chosen now [] = refl
weights_chosen now (held ∷ later) =
    sum_by-cons (λ (chosen : Chosen). weight chosen.advert) (chosen_at now held) (map (chosen_at now) later)
    ∙ ap (λ (n : ℕ). weight held.advert + n) (weights_chosen now later)
    ∙ sym (weights-cons held later)

-- one record more fits where it has room
one_more : (base limit : ℕ) (held : Held) (later : List Held) (n : ℕ) → IsLongestThatFits base limit (held ∷ later) (suc n) →
    IsLongestThatFits (base + weight held.advert) limit later n
one_more base limit held later n h = record {
  within = omega (arith, h.within);
  fits = omega (arith, h.fits, weights-cons held (take n later));
  longest = λ more above inside. omega (arith, h.longest (suc more) (omega arith) (omega arith), weights-cons held (take more later));
}

-- how many have room, by the test whether the first one has
fitting-cons : (t : Bool) (room : ℕ) (held : Held) (later : List Held) → leb (weight held.advert) room ≡ t →
    fitting room (held ∷ later) ≡ cond t (1 + fitting (room - weight held.advert) later) 0
fitting-cons t room held later e = ap (λ (b : Bool). cond b (1 + fitting (room - weight held.advert) later) 0) e

pub fits_longest : (base limit : ℕ) (records : List Held) (n : ℕ) → base ≤ limit → IsLongestThatFits base limit records n → n ≡ fitting (limit - base) records
fits_longest base limit [] n le h = omega (arith, h.within)
fits_longest base limit (held ∷ later) zero le h =
    let few : 1 ≤ length (held ∷ later) = omega arith in
    let none : limit < need_with base (held ∷ []) = h.longest 1 (lit< tt) few in
    let large : limit - base < weight held.advert = omega (arith, none, weights-cons held []) in
    sym (fitting-cons false (limit - base) held later (lt-leb _ _ large))
fits_longest base limit (held ∷ later) (suc n) le h =
    let more : IsLongestThatFits (base + weight held.advert) limit later n = one_more base limit held later n h in
    let small : base + weight held.advert ≤ limit = omega (arith, h.fits, weights-cons held (take n later)) in
    let rest : n ≡ fitting (limit - (base + weight held.advert)) later = fits_longest (base + weight held.advert) limit later n small more in
    let same : limit - (base + weight held.advert) ≡ limit - base - weight held.advert = omega arith in
    let fits : weight held.advert ≤ limit - base = omega arith in
    let one : suc n ≡ 1 + n = omega arith in
    one
    ∙ ap (λ (k : ℕ). 1 + k) (rest ∙ ap (λ (room : ℕ). fitting room later) same)
    ∙ sym (fitting-cons true (limit - base) held later (le-leb _ _ fits))

-- a longest prefix with one record more in front
more_front : (base limit : ℕ) (held : Held) (later : List Held) (n : ℕ) → base + weight held.advert ≤ limit →
    IsLongestThatFits (base + weight held.advert) limit later n → IsLongestThatFits base limit (held ∷ later) (1 + n)
more_front base limit held later n le h = record {
  within = omega (arith, h.within);
  fits = fits (1 + n) (omega arith);
  longest = longest;
}
  where
    fits : (m : ℕ) → m ≡ suc n → need_with base (take m (held ∷ later)) ≤ limit
    fits m e = rw e (omega (arith, h.fits, weights-cons held (take n later)))

    longest : (more : ℕ) → 1 + n < more → more ≤ length (held ∷ later) → limit < need_with base (take more (held ∷ later))
    longest zero lt le = absurd (omega arith)
    longest (suc more) lt le = omega (arith, h.longest more (omega arith) (omega arith), weights-cons held (take more later))

no_front : (base limit : ℕ) (held : Held) (later : List Held) → base ≤ limit → limit < base + weight held.advert →
    IsLongestThatFits base limit (held ∷ later) 0
no_front base limit held later le large = record { within = omega arith; fits = omega arith; longest = longest }
  where
    longest : (more : ℕ) → 0 < more → more ≤ length (held ∷ later) → limit < need_with base (take more (held ∷ later))
    longest zero lt le = absurd (omega arith)
    longest (suc more) lt le = omega (arith, weights-cons held (take more later))

by_room : (t : Bool) (base limit : ℕ) (held : Held) (later : List Held) → base ≤ limit → leb (weight held.advert) (limit - base) ≡ t →
    (base + weight held.advert ≤ limit → IsLongestThatFits (base + weight held.advert) limit later (fitting (limit - (base + weight held.advert)) later)) →
    IsLongestThatFits base limit (held ∷ later) (fitting (limit - base) (held ∷ later))
by_room true base limit held later le e rest =
    let fits : weight held.advert ≤ limit - base = leb-true _ _ e in
    let small : base + weight held.advert ≤ limit = omega arith in
    let same : limit - (base + weight held.advert) ≡ limit - base - weight held.advert = omega arith in
    subst (λ (n : ℕ). IsLongestThatFits base limit (held ∷ later) n)
    (ap (λ (room : ℕ). 1 + fitting room later) same ∙ sym (fitting-cons true (limit - base) held later e))
    (more_front base limit held later (fitting (limit - (base + weight held.advert)) later) small (rest small))
by_room false base limit held later le e rest =
    let large : limit - base < weight held.advert = leb-false _ _ e in
    subst (λ (n : ℕ). IsLongestThatFits base limit (held ∷ later) n)
    (sym (fitting-cons false (limit - base) held later e))
    (no_front base limit held later le (omega arith))

is_longest : (base limit : ℕ) (records : List Held) → base ≤ limit → IsLongestThatFits base limit records (fitting (limit - base) records)
is_longest base limit [] le = record { within = omega arith; fits = omega arith; longest = λ more lt few. absurd (omega arith) }
is_longest base limit (held ∷ later) le =
    by_room (leb (weight held.advert) (limit - base)) base limit held later le refl (λ small. is_longest (base + weight held.advert) limit later small)

pub longest_fits : (base limit : ℕ) (records : List Held) (n : ℕ) → base ≤ limit → n ≡ fitting (limit - base) records → IsLongestThatFits base limit records n
longest_fits base limit records n le e = subst (λ (k : ℕ). IsLongestThatFits base limit records k) (sym e) (is_longest base limit records le)

ids_chosen : (now : ℕ) (records : List Held) → map (λ (one : Chosen). one.id) (map (chosen_at now) records) ≡ ids_of records
ids_chosen now [] = refl
ids_chosen now (held ∷ later) = ap (λ (ids : List ℕ). held.id ∷ ids) (ids_chosen now later)

-- the chosen records and those that are left are all of them
pub all_records : (number now : ℕ) (config : Config) (state : FilterState) (records : List Held) →
    map (λ (one : Chosen). one.id) (install_of number now config state records).basis.chosen ++ (install_of number now config state records).left ≡ ids_of records
unfolding install_of
all_records number now config state records =
    let n = kept config state records in
    ap (λ (ids : List ℕ). ids ++ ids_of (drop n records)) (ids_chosen now (take n records))
    ∙ sym (map-append (λ (held : Held). held.id) (take n records) (drop n records))
    ∙ ap ids_of (take-append-drop n records)
