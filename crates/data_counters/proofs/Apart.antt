-- Counters have numbers of their own, so their words lie apart.
use Rattle.std.proofs.Common.{◌≡◌, ◌≢◌, ℕ, ◌+◌, ◌-◌, ◌*◌, ◌/◌, ◌%◌, ◌^◌, ◌<◌, ◌≤◌, List, [], ◌∷◌, length, Some, cond, refl, sym, ap, subst, ◌∙◌, arith, inl, inr, eqb-true, Bool, true, false}
use Rattle.std.proofs.lemmas.Bool.{cases_lt}
use Rattle.std.specs.Prelude.{◌⊎◌, ◌==◌, All, slice_index}
use Rattle.std.specs.List.{find}
use Rattle.data_counters.specs.declared.counter.Counter.{Counter}
use Rattle.data_counters.specs.Counters.{number_of, all_counters, counter_of, counter_count}
use Rattle.apf_base.specs.Limits.{memory_size}
use Rattle.data_counters.specs.Memory.{word_at, place_of, value_of, raised, AddsWords}
use Rattle.data_counters.proofs.Words.{word_at-with_word, word_at-beside, byte-before, byte-behind, length-with_word, same_words}

pub counter_of-number_of : (c : Counter) → counter_of (number_of c) ≡ Some c
counter_of-number_of c = grind arith

-- a number from 1 to the count of counters
pub record IsCounterNumber (n : ℕ) : Type 0 where
  pub least : 1 ≤ n
  pub most : n ≤ counter_count

least_number : (c : Counter) → 1 ≤ number_of c
least_number c = grind arith

most_number : (c : Counter) → number_of c ≤ counter_count
most_number c = grind arith

pub number_of-range : (c : Counter) → IsCounterNumber (number_of c)
number_of-range c = record { least = least_number c; most = most_number c }

pub number_of-one : (c d : Counter) → number_of c ≡ number_of d → c ≡ d
number_of-one c d e = let same : Some c ≡ Some d = sym (counter_of-number_of c) ∙ ap counter_of e ∙ counter_of-number_of d in cc

-- what was found among counters by a number has it
number_of-found : (cs : List Counter) (n : ℕ) (c : Counter) → find (λ d. number_of d == n) cs ≡ Some c → number_of c ≡ n
number_of-found [] n c e = absurd cc
number_of-found (d ∷ cs) n c e = go (number_of d == n) refl e (number_of-found cs n c)
  where
    go : (found : Bool) → (number_of d == n) ≡ found → cond found (Some d) (find (λ d. number_of d == n) cs) ≡ Some c → (find (λ d. number_of d == n) cs ≡ Some c → number_of c ≡ n) → number_of c ≡ n
    go true found there later = let same : d ≡ c = cc in subst (λ (k : Counter). number_of k ≡ n) same (eqb-true (number_of d) n found)
    go false found there later = later there

pub number_of-counter_of : (c : Counter) (n : ℕ) → counter_of n ≡ Some c → number_of c ≡ n
number_of-counter_of c n e = number_of-found all_counters n c e

-- ---- words

-- a counter's word lies in the memory
word_inside : (c : Counter) (memory : List ℕ) → length memory ≡ memory_size → place_of c + 4 ≤ length memory
word_inside c memory long = let range : IsCounterNumber (number_of c) = number_of-range c in omega arith

pub value_of-same : (c : Counter) (memory : List ℕ) → length memory ≡ memory_size → value_of c (raised c memory) ≡ (value_of c memory + 1) % 2 ^ 32
value_of-same c memory long = word_at-with_word (place_of c) ((value_of c memory + 1) % 2 ^ 32) memory (word_inside c memory long) (omega arith)

places_apart : (m n : ℕ) → IsCounterNumber m → IsCounterNumber n → m ≢ n → (memory_size - 4 * n + 4 ≤ memory_size - 4 * m) ⊎ (memory_size - 4 * m + 4 ≤ memory_size - 4 * n)
places_apart m n i j ne = elim (cases_lt m n) [ inl lt ↦ inl (omega arith) | inr ge ↦ inr (omega arith) ]

pub value_of-other : (c d : Counter) (memory : List ℕ) → length memory ≡ memory_size → c ≢ d → value_of d (raised c memory) ≡ value_of d memory
value_of-other c d memory long ne =
    word_at-beside (place_of c) (place_of d) ((value_of c memory + 1) % 2 ^ 32) memory (word_inside c memory long)
    (places_apart (number_of c) (number_of d) (number_of-range c) (number_of-range d) (λ e. ne (number_of-one c d e)))

pub byte-raised : (c : Counter) (memory : List ℕ) (k : ℕ) → length memory ≡ memory_size → (k < place_of c) ⊎ (place_of c + 4 ≤ k) → slice_index (raised c memory) k ≡ slice_index memory k
byte-raised c memory k long beside = elim beside [
  | inl before ↦ byte-before (place_of c) _ memory k (word_inside c memory long) before
  | inr behind ↦ byte-behind (place_of c) _ memory k (word_inside c memory long) behind
]

pub length-raised : (c : Counter) (memory : List ℕ) → length memory ≡ memory_size → length (raised c memory) ≡ memory_size
length-raised c memory long = length-with_word (place_of c) _ memory (word_inside c memory long) ∙ long

-- ---- sums

pub value_of-sum : (c : Counter) (old from new : List ℕ) → AddsWords old from new → value_of c new ≡ (value_of c old + value_of c from) % 2 ^ 32
value_of-sum c old from new adds =
    let range : IsCounterNumber (number_of c) = number_of-range c in
    let place : 4 * (memory_size / 4 - number_of c) ≡ place_of c = omega arith in
    subst (λ (at : ℕ). word_at at new ≡ (word_at at old + word_at at from) % 2 ^ 32) place (adds (memory_size / 4 - number_of c) (omega arith))

pub sum-one : (old from new other : List ℕ) → AddsWords old from new → AddsWords old from other → length new ≡ memory_size → length other ≡ memory_size → All (λ b. b < 256) new → All (λ b. b < 256) other → new ≡ other
sum-one old from new other adds too long as_long bytes other_bytes =
    same_words new other long as_long bytes other_bytes (λ k few. adds k few ∙ sym (too k few))
