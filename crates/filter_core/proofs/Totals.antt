-- A replay is its story and then its ending, and its totals add up.
use Rattle.std.proofs.Common.{◌≡◌, ℕ, ◌+◌, ◌≤◌, ◌<◌, Bool, true, false, not, cond, List, [], ◌∷◌, ◌++◌, length, drop, fold, refl, sym, ap, ◌∙◌, arith, lit≤, append_assoc, append-nil}
use Rattle.std.specs.Prelude.{nat_le, count_by, ◌==◌}
use Rattle.std.specs.List.{sum_by}
use Rattle.std.proofs.Math.Seq.{drop-append_seam}
use Rattle.std.proofs.lemmas.Bool.{agree_below_at, leb-true}
use Rattle.std.proofs.lemmas.List.Concat.{flat_map-cons}
use Rattle.std.proofs.lemmas.List.Sums.{sum_by-append, sum_by-cons}
use Rattle.data_counters.specs.Counters.{number_of, all_counters, counter_count}
use Rattle.data_counters.specs.declared.counter.Counter.{Counter}
use Rattle.data_counters.specs.declared.counter.Counter.TheVariants.{TotalPackets}
use Rattle.data_counters.proofs.Apart.{IsCounterNumber, number_of-range}
use Rattle.policy_state.specs.declared.basis.Script.{Script}
use Rattle.policy_state.specs.declared.basis.Timed.{Timed}
use Rattle.policy_state.specs.Whole.{Fate, Short, Missing, Says}
use Rattle.filter_core.specs.Replay.{Arrival, Entry, Course, after_event, course, ending, finished, replay, story, totals, update_entries}
use Rattle.filter_core.specs.Steps.{Answered, updated}
use Rattle.filter_core.specs.Tally.{times_raised, raised_by, raises}

-- ---- the story and the ending

-- events tell more, behind what was told
events_tell : (c : Course) (events : List Timed) → (more : List Entry) × ((fold after_event c events).told ≡ c.told ++ more)
events_tell c [] = ([], sym (append-nil c.told))
events_tell c (event ∷ later) =
    let here = update_entries (updated c.filter event.update event.time) in
    let rest = events_tell (after_event c event) later in
    (here ++ rest.0, rest.1 ∙ append_assoc c.told here rest.0)

told_behind : (told all more : List Entry) → all ≡ told ++ more → all ++ totals all ≡ told ++ drop (length told) (all ++ totals all)
told_behind told all more is =
    let whole : all ++ totals all ≡ told ++ (more ++ totals all) = ap (λ (xs : List Entry). xs ++ totals all) is ∙ append_assoc told more (totals all) in
    whole ∙ ap (λ (xs : List Entry). told ++ xs) (sym (drop-append_seam told (more ++ totals all)) ∙ ap (λ (xs : List Entry). drop (length told) xs) (sym whole))

pub story_and_ending : (script : Script) (arrivals : List Arrival) → replay script arrivals ≡ story script arrivals ++ ending script arrivals
story_and_ending script arrivals =
    let c = course script arrivals in
    let more = events_tell c c.events in
    told_behind c.told (finished c).told more.0 more.1

-- ---- frames

one_of_two : (t : Bool) → cond t 1 0 + cond (not t) 1 0 ≡ 1
one_of_two true = refl
one_of_two false = refl

pub counted_or_not : {A : Type 0} (test : A → Bool) (xs : List A) → count_by test xs + count_by (λ x. not (test x)) xs ≡ length xs
counted_or_not test [] = refl
counted_or_not test (x ∷ xs) =
    omega (arith, sum_by-cons (λ x. cond (test x) 1 0) x xs, sum_by-cons (λ x. cond (not (test x)) 1 0) x xs, one_of_two (test x), counted_or_not test xs)

-- ---- counters

-- the counters beside the first
abbrev pub Others : List Counter
Others = drop 1 all_counters

-- how often an answer raises them that raises the first and the one of this number
abbrev of_number : ℕ → ℕ
of_number n = sum_by (λ d. count_by (λ m. m == number_of d) (1 ∷ n ∷ [])) Others

one_number : (n : ℕ) → n ≤ counter_count → of_number n ≤ 1
one_number n lt = leb-true (of_number n) 1 (agree_below_at (λ m. nat_le (of_number m) 1) (λ _. true) (counter_count + 1) n refl (omega arith))

one_counter : (c : Counter) → sum_by (times_raised (TotalPackets ∷ c ∷ [])) Others ≤ 1
one_counter c = let range : IsCounterNumber (number_of c) = number_of-range c in one_number (number_of c) (omega (arith, range.most))

one_fate : (fate : Fate) → sum_by (times_raised (raises fate)) Others ≤ 1
one_fate Short = lit≤ tt
one_fate Missing = lit≤ tt
one_fate (Says verdict counter) = one_counter counter

added : (xs ys : List Counter) (ds : List Counter) → sum_by (times_raised (xs ++ ys)) ds ≡ sum_by (times_raised xs) ds + sum_by (times_raised ys) ds
added xs ys [] = refl
added xs ys (d ∷ ds) =
    omega (arith, sum_by-cons (times_raised (xs ++ ys)) d ds, sum_by-cons (times_raised xs) d ds, sum_by-cons (times_raised ys) d ds, sum_by-append (λ e. cond (number_of e == number_of d) 1 0) xs ys, added xs ys ds)

pub others_few : (answers : List Answered) → sum_by (times_raised (raised_by answers)) Others ≤ length answers
others_few [] = lit≤ tt
others_few (a ∷ answers) =
    let more : sum_by (times_raised (raised_by (a ∷ answers))) Others ≡ sum_by (times_raised (raises a.fate)) Others + sum_by (times_raised (raised_by answers)) Others =
    ap (λ (xs : List Counter). sum_by (times_raised xs) Others) (flat_map-cons (λ (answer : Answered). raises answer.fate) a answers) ∙ added (raises a.fate) (raised_by answers) Others in
    omega (arith, more, one_fate a.fate, others_few answers)
