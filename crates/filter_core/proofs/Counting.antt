-- The memory of counts, and what one more answer does to it.
use Rattle.std.proofs.Common.{◌≡◌, ℕ, zero, suc, ◌+◌, ◌-◌, ◌*◌, ◌/◌, ◌%◌, ◌^◌, ◌<◌, ◌≤◌, ◌==◌, Bool, true, false, cond, List, [], ◌∷◌, ◌++◌, length, map, reverse, take, drop, set, get_or, replicate, flat_map, slice_range, refl, sym, ap, ◌∙◌, arith, append_assoc}
use Rattle.std.proofs.Math.Seq.{take-append-add, drop-append-add, drop-cons}
use Rattle.std.proofs.lemmas.Grind.{flat_map-append}
use Rattle.std.proofs.lemmas.List.{append-nil, set_split}
use Rattle.std.proofs.lemmas.List.Concat.{flat_map-cons}
use Rattle.std.proofs.lemmas.List.Sums.{sum_by-append}
use Rattle.std.proofs.lemmas.Nat.{from_be_bytes-to_be_bytes_4}
use Rattle.std.specs.Int.{w32, from_be_bytes, to_be_bytes}
use Rattle.data_counters.specs.Counters.{number_of, all_counters, counter_count}
use Rattle.apf_base.specs.Limits.{memory_size}
use Rattle.data_counters.specs.Memory.{word_at, with_word, place_of, value_of, raised}
use Rattle.data_counters.specs.declared.counter.Counter.{Counter}
use Rattle.data_counters.specs.declared.counter.Counter.TheVariants.{TotalPackets}
use Rattle.data_counters.proofs.Apart.{IsCounterNumber, number_of-range}
use Rattle.apf_generate.specs.Means.{memory_after}
use Rattle.policy_state.specs.Whole.{Fate, Short, Missing, Says}
use Rattle.filter_core.specs.Steps.{Answered}
use Rattle.filter_core.specs.Tally.{raises, raised_by, times_raised, words_of, memory_of}

-- ---- words as bytes

abbrev bytes_of : List ℕ → List ℕ
bytes_of words = flat_map (to_be_bytes w32) words

bytes_of-cons : (word : ℕ) (words : List ℕ) → bytes_of (word ∷ words) ≡ to_be_bytes w32 word ++ bytes_of words
bytes_of-cons word words = flat_map-cons (to_be_bytes w32) word words

take_words : (words : List ℕ) (k : ℕ) → k ≤ length words → take (4 * k) (bytes_of words) ≡ bytes_of (take k words)
take_words words zero le = refl
take_words [] (suc k) le = absurd (omega arith)
take_words (word ∷ words) (suc k) le =
    let four : 4 * suc k ≡ length (to_be_bytes w32 word) + 4 * k = omega arith in
    rw (four, bytes_of-cons word words, take-append-add (to_be_bytes w32 word) (bytes_of words) (4 * k), take_words words k (omega arith)) (sym (bytes_of-cons word (take k words)))

drop_words : (words : List ℕ) (k : ℕ) → k ≤ length words → drop (4 * k) (bytes_of words) ≡ bytes_of (drop k words)
drop_words words zero le = refl
drop_words [] (suc k) le = absurd (omega arith)
drop_words (word ∷ words) (suc k) le =
    let four : 4 * suc k ≡ length (to_be_bytes w32 word) + 4 * k = omega arith in
    rw (four, bytes_of-cons word words, drop-append-add (to_be_bytes w32 word) (bytes_of words) (4 * k)) (drop_words words k (omega arith))

set_word : (words : List ℕ) (k word : ℕ) → k < length words → with_word (4 * k) word (bytes_of words) ≡ bytes_of (set words k word)
unfolding with_word
set_word words k word lt =
    let next : 4 * k + 4 ≡ 4 * suc k = omega arith in
    rw (next, take_words words k (omega arith), drop_words words (suc k) (omega arith), set_split words k word lt, flat_map-append (to_be_bytes w32) (take k words) (word ∷ drop (suc k) words), flat_map-cons (to_be_bytes w32) word (drop (suc k) words))
    (append_assoc (bytes_of (take k words)) (to_be_bytes w32 word) (bytes_of (drop (suc k) words)))

first_word : (word : ℕ) (words : List ℕ) → take 4 (bytes_of (word ∷ words)) ≡ to_be_bytes w32 word
first_word word words = refl

slice_word : (words : List ℕ) (k : ℕ) → k < length words → slice_range (bytes_of words) (4 * k) (4 * k + 4) ≡ to_be_bytes w32 (get_or words k 0)
slice_word words k lt =
    let four : 4 * k + 4 - 4 * k ≡ 4 = omega arith in
    ap (λ (n : ℕ). take n (drop (4 * k) (bytes_of words))) four
    ∙ ap (λ (bytes : List ℕ). take 4 bytes) (drop_words words k (omega arith))
    ∙ ap (λ (rest : List ℕ). take 4 (bytes_of rest)) (drop-cons words k 0 lt)
    ∙ first_word (get_or words k 0) (drop (suc k) words)

word_in : (words : List ℕ) (k : ℕ) → k < length words → get_or words k 0 < 2 ^ 32 → word_at (4 * k) (bytes_of words) ≡ get_or words k 0
unfolding word_at
word_in words k lt small = ap (λ (bytes : List ℕ). from_be_bytes w32 bytes) (slice_word words k lt) ∙ from_be_bytes-to_be_bytes_4 (get_or words k 0) small

-- ---- counts

-- one more where this is so
abbrev one_more : Bool → ℕ → ℕ
one_more true n = n + 1
one_more false n = n

counted_one : (t : Bool) (n : ℕ) → n + (0 + cond t 1 0) ≡ one_more t n
counted_one true n = omega arith
counted_one false n = omega arith

count-more : (counters : List Counter) (c d : Counter) → times_raised (counters ++ c ∷ []) d ≡ one_more (number_of c == number_of d) (times_raised counters d)
count-more counters c d =
    sum_by-append (λ (e : Counter). cond (number_of e == number_of d) 1 0) counters (c ∷ [])
    ∙ counted_one (number_of c == number_of d) (times_raised counters d)

map_same : (f g : Counter → ℕ) → ((c : Counter) → f c ≡ g c) → (cs : List Counter) → map f cs ≡ map g cs
map_same f g same [] = refl
map_same f g same (c ∷ cs) = let first = same c in let later = map_same f g same cs in cc

-- the words after one more counter was raised
abbrev words_more : List Counter → Counter → List ℕ
words_more counters c = replicate (memory_size / 4 - counter_count) 0 ++ map (λ d. one_more (number_of c == number_of d) (times_raised counters d) % 2 ^ 32) (reverse all_counters)

words_of-more : (counters : List Counter) (c : Counter) → words_of (counters ++ c ∷ []) ≡ words_more counters c
words_of-more counters c =
    ap (λ (words : List ℕ). replicate (memory_size / 4 - counter_count) 0 ++ words)
    (map_same (λ d. times_raised (counters ++ c ∷ []) d % 2 ^ 32) (λ d. one_more (number_of c == number_of d) (times_raised counters d) % 2 ^ 32)
    (λ d. ap (λ (n : ℕ). n % 2 ^ 32) (count-more counters c d)) (reverse all_counters))

word_of : (counters : List Counter) (c : Counter) → get_or (words_of counters) (memory_size / 4 - number_of c) 0 ≡ times_raised counters c % 2 ^ 32
word_of counters c = grind arith

-- the word of one counter, and those of all others
set_one : (f g : Counter → ℕ) (c : Counter) → set (replicate (memory_size / 4 - counter_count) 0 ++ map f (reverse all_counters)) (memory_size / 4 - number_of c) (g c)
    ≡ replicate (memory_size / 4 - counter_count) 0 ++ map (λ d. cond (number_of c == number_of d) (g d) (f d)) (reverse all_counters)
set_one f g c = grind arith

one_more-cond : (t : Bool) (n : ℕ) → cond t ((n + 1) % 2 ^ 32) (n % 2 ^ 32) ≡ one_more t n % 2 ^ 32
one_more-cond true n = refl
one_more-cond false n = refl

set_count : (counters : List Counter) (c : Counter) → set (words_of counters) (memory_size / 4 - number_of c) ((times_raised counters c + 1) % 2 ^ 32) ≡ words_more counters c
set_count counters c =
    set_one (λ d. times_raised counters d % 2 ^ 32) (λ d. (times_raised counters d + 1) % 2 ^ 32) c
    ∙ ap (λ (words : List ℕ). replicate (memory_size / 4 - counter_count) 0 ++ words)
    (map_same _ _ (λ d. one_more-cond (number_of c == number_of d) (times_raised counters d)) (reverse all_counters))

place-words : (c : Counter) → place_of c ≡ 4 * (memory_size / 4 - number_of c)
place-words c = let range : IsCounterNumber (number_of c) = number_of-range c in omega arith

inside : (counters : List Counter) (c : Counter) → memory_size / 4 - number_of c < length (words_of counters)
inside counters c = let range : IsCounterNumber (number_of c) = number_of-range c in let n : length (words_of counters) ≡ memory_size / 4 = refl in omega arith

-- each counter holds its count
pub value_of-counts : (counters : List Counter) (c : Counter) → value_of c (memory_of counters) ≡ times_raised counters c % 2 ^ 32
unfolding memory_of
value_of-counts counters c =
    let small : get_or (words_of counters) (memory_size / 4 - number_of c) 0 < 2 ^ 32 = rw (word_of counters c) (omega arith) in
    rw (place-words c) (word_in (words_of counters) (memory_size / 4 - number_of c) (inside counters c) small ∙ word_of counters c)

-- the memory of no counts is zeros
pub memory_of-none : memory_of [] ≡ replicate memory_size 0
unfolding memory_of
memory_of-none = refl

pub length-memory_of : (counters : List Counter) → length (memory_of counters) ≡ memory_size
unfolding memory_of
length-memory_of counters = refl

one_more-mod : (n : ℕ) → (n % 2 ^ 32 + 1) % 2 ^ 32 ≡ (n + 1) % 2 ^ 32
one_more-mod n = omega arith

written : (counters : List Counter) (c : Counter) → with_word (place_of c) ((times_raised counters c + 1) % 2 ^ 32) (memory_of counters) ≡ memory_of (counters ++ c ∷ [])
unfolding memory_of
written counters c =
    ap (λ (at : ℕ). with_word at ((times_raised counters c + 1) % 2 ^ 32) (memory_of counters)) (place-words c)
    ∙ set_word (words_of counters) (memory_size / 4 - number_of c) ((times_raised counters c + 1) % 2 ^ 32) (inside counters c)
    ∙ ap (λ (words : List ℕ). bytes_of words) (set_count counters c ∙ sym (words_of-more counters c))

-- raising a counter counts it once more
pub raised-counts : (counters : List Counter) (c : Counter) → raised c (memory_of counters) ≡ memory_of (counters ++ c ∷ [])
raised-counts counters c =
    ap (λ (n : ℕ). with_word (place_of c) ((n + 1) % 2 ^ 32) (memory_of counters)) (value_of-counts counters c)
    ∙ ap (λ (n : ℕ). with_word (place_of c) n (memory_of counters)) (one_more-mod (times_raised counters c))
    ∙ written counters c

-- ---- answers

raised_by-more : (answers : List Answered) (a : Answered) → raised_by (answers ++ a ∷ []) ≡ raised_by answers ++ raises a.fate
raised_by-more answers a = flat_map-append (λ (b : Answered). raises b.fate) answers (a ∷ []) ∙ ap (λ (cs : List Counter). raised_by answers ++ cs) (append-nil (raises a.fate))

raised_by_fate : (counters : List Counter) (fate : Fate) → memory_of (counters ++ raises fate) ≡ memory_after fate (memory_of counters)
raised_by_fate counters Short = ap memory_of (append-nil counters)
raised_by_fate counters Missing = sym (raised-counts counters TotalPackets)
raised_by_fate counters (Says verdict c) =
    ap memory_of (sym (append_assoc counters (TotalPackets ∷ []) (c ∷ [])))
    ∙ sym (raised-counts (counters ++ TotalPackets ∷ []) c)
    ∙ sym (ap (raised c) (raised-counts counters TotalPackets))

-- the memory after an answer is that of the counts with one more answer
pub memory_of-more : (answers : List Answered) (a : Answered) → memory_of (raised_by (answers ++ a ∷ [])) ≡ memory_after a.fate (memory_of (raised_by answers))
memory_of-more answers a = ap memory_of (raised_by-more answers a) ∙ raised_by_fate (raised_by answers) a.fate
