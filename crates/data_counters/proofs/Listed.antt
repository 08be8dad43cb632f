-- The counters by their numbers are all counters.
use Rattle.std.specs.Prelude.{◌==◌, ◌≢◌}
use Rattle.std.specs.List.{find, flat_map}
use Rattle.std.proofs.Common.{List, [], ◌∷◌, ◌++◌, take, drop, length, ◌≡◌, ℕ, ◌+◌, ◌-◌, ◌<◌, ◌≤◌, arith, get_or, refl, sym, ap, ◌∙◌}
use Rattle.std.proofs.lemmas.Bool.{ne_eqb}
use Rattle.std.proofs.lemmas.List.{take_all, append-nil}
use Rattle.std.proofs.lemmas.Grind.{take_at_read, flat_map-append}
use Rattle.data_counters.specs.declared.counter.Counter.{Counter}
use Rattle.data_counters.specs.declared.counter.Counter.TheVariants.{TotalPackets}
use Rattle.data_counters.specs.Counters.{number_of, all_counters, counter_count}

-- a first counter that hasn't the number is passed over
pub find_behind : (n : ℕ) (cs : List Counter) (c : Counter) → 1 ≤ length cs → get_or cs 0 c ≡ c → number_of c ≢ n
    → find (λ d. number_of d == n) (take (length cs - 1) (drop 1 cs)) ≡ find (λ d. number_of d == n) cs
find_behind n [] c some first ne = absurd (omega arith)
find_behind n (d ∷ cs) c some first ne =
    ap (find (λ d. number_of d == n)) (take_all (length (d ∷ cs) - 1) cs (omega arith)) ∙ sym (rw (ne_eqb (number_of d) n (λ e. ne (ap number_of (sym first) ∙ e))) refl)

-- one counter more of a list that is made counter by counter
pub flat_map-more : {A : Type 0} (f : Counter → List A) (k : ℕ) → k < counter_count
    → flat_map f (take k all_counters) ++ f (get_or all_counters k TotalPackets) ≡ flat_map f (take (k + 1) all_counters)
flat_map-more f k lt =
    let next = get_or all_counters k TotalPackets in
    let more = (take_at_read all_counters k TotalPackets (omega arith)).1 in
    sym (ap (flat_map f) more ∙ flat_map-append f (take k all_counters) (next ∷ []) ∙ ap (λ t. flat_map f (take k all_counters) ++ t) (append-nil (f next)))
