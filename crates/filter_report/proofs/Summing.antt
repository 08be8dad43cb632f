-- The last lines are those of the totals.
use Rattle.std.proofs.Common.{◌≡◌, ℕ, suc, ◌+◌, ◌*◌, ◌^◌, ◌<◌, ◌≤◌, ◌==◌, Bool, true, false, cond, List, [], ◌∷◌, ◌++◌, length, map, take, get_or, flat_map, refl, sym, ap, subst, ◌∙◌, arith, append_assoc}
use Rattle.std.proofs.lemmas.List.{append-nil, map-append, take_all}
use Rattle.std.proofs.lemmas.List.Sums.{sum_by-cons}
use Rattle.data_counters.proofs.Listed.{flat_map-more}
use Rattle.data_counters.specs.Counters.{number_of, all_counters, counter_count}
use Rattle.data_counters.specs.Memory.{value_of}
use Rattle.data_counters.specs.declared.counter.Counter.{Counter}
use Rattle.data_counters.specs.declared.counter.Counter.TheVariants.{TotalPackets}
use Rattle.policy_state.specs.Whole.{Fate, Short, Missing, Says}
use Rattle.filter_core.proofs.Counting.{value_of-counts}
use Rattle.filter_core.proofs.Growing.{installs-append, totals_apart, totals_answers}
use Rattle.filter_core.specs.Installs.{Installed}
use Rattle.filter_core.specs.Replay.{Course, Entry, counted, total, answers_of, installs_of, counted_in, passed, totals}
use Rattle.filter_core.specs.Standing.{Standing}
use Rattle.filter_core.specs.Steps.{Answered}
use Rattle.filter_core.specs.Tally.{times_raised, raises, raised_by, memory_of}
use Rattle.script_text.specs.Report.{counted_line, total_line}
use Rattle.filter_report.proofs.Leading.{codes_behind, leads_lines, lines_told}
use Rattle.filter_report.proofs.Telling.{answers-append, lines-append, length-AllFit}
use Rattle.filter_report.specs.Along.{Along, Reporting, InCourse}
use Rattle.filter_report.specs.Report.{AllFit, steps_from, Tells, AllHaveCodes, Leads}
use Rattle.filter_report.specs.Text.{entry_line, entry_lines, lines_of_counter, last_lines}

-- ---- the lines of the first counters
pub counted_lines : List ℕ → ℕ → List (List ℕ)
counted_lines memory k = flat_map (lines_of_counter memory) (take k all_counters)

pub counted_lines-more : (memory : List ℕ) (k : ℕ) → k < counter_count
    → counted_lines memory k ++ lines_of_counter memory (get_or all_counters k TotalPackets) ≡ counted_lines memory (k + 1)
unfolding counted_lines
counted_lines-more memory k lt = flat_map-more (lines_of_counter memory) k lt

pub counted_lines-none : (memory : List ℕ) → counted_lines memory 0 ≡ []
unfolding counted_lines
counted_lines-none memory = refl

pub counted_lines-all : (memory : List ℕ) (k : ℕ) → counter_count ≤ k → counted_lines memory k ≡ flat_map (lines_of_counter memory) all_counters
unfolding counted_lines
counted_lines-all memory k all = ap (λ (cs : List Counter). flat_map (lines_of_counter memory) cs) (take_all k all_counters all)

-- ---- counters are counts

few_more : (fate : Fate) (raised : List Counter) (n : ℕ) → length raised ≤ 2 * n → length (raises fate ++ raised) ≤ 2 * (n + 1)
few_more Short raised n le = omega (arith, le)
few_more Missing raised n le = omega (arith, le)
few_more (Says verdict c) raised n le = omega (arith, le)

few_raised : (answers : List Answered) → length (raised_by answers) ≤ 2 * length answers
few_raised [] = omega arith
few_raised (a ∷ answers) = let le : length (raises a.fate ++ raised_by answers) ≤ 2 * (length answers + 1) = few_more a.fate (raised_by answers) (length answers) (few_raised answers) in omega (arith, le)

one_most : (t : Bool) (n m : ℕ) → n ≤ m → cond t 1 0 + n ≤ suc m
one_most true n m le = omega (arith, le)
one_most false n m le = omega (arith, le)

count_most : (raised : List Counter) (c : Counter) → times_raised raised c ≤ length raised
count_most [] c = omega arith
count_most (d ∷ raised) c =
    subst (λ (n : ℕ). n ≤ suc (length raised)) (sym (sum_by-cons (λ (e : Counter). cond (number_of e == number_of c) 1 0) d raised))
    (one_most (number_of d == number_of c) (times_raised raised c) (length raised) (count_most raised c))

value_is : (answers : List Answered) (c : Counter) → length answers < 2 ^ 31 → value_of c (memory_of (raised_by answers)) ≡ times_raised (raised_by answers) c
value_is answers c few =
    let small : times_raised (raised_by answers) c < 2 ^ 32 = omega (arith, few_raised answers, count_most (raised_by answers) c) in
    value_of-counts (raised_by answers) c ∙ omega arith

one_line : (programs : List (List ℕ)) (steps : List ℕ) (t : Bool) (c : Counter) (n : ℕ) → map (entry_line programs steps) (cond t [] (counted c n ∷ [])) ≡ cond t [] (counted_line c n ∷ [])
one_line programs steps true c n = refl
one_line programs steps false c n = refl

counter_lines : (programs : List (List ℕ)) (steps : List ℕ) (answers : List Answered) (cs : List Counter) → length answers < 2 ^ 31
    → map (entry_line programs steps) (flat_map (counted_in answers) cs) ≡ flat_map (lines_of_counter (memory_of (raised_by answers))) cs
counter_lines programs steps answers [] few = refl
counter_lines programs steps answers (c ∷ cs) few =
    let n = times_raised (raised_by answers) c in
    let here : map (entry_line programs steps) (counted_in answers c) ≡ lines_of_counter (memory_of (raised_by answers)) c =
    one_line programs steps (n == 0) c n ∙ ap (λ (v : ℕ). cond (v == 0) [] (counted_line c v ∷ [])) (sym (value_is answers c few)) in
    map-append (entry_line programs steps) (counted_in answers c) (flat_map (counted_in answers) cs)
    ∙ ap (λ (l : List (List ℕ)). l ++ map (entry_line programs steps) (flat_map (counted_in answers) cs)) here
    ∙ ap (λ (l : List (List ℕ)). lines_of_counter (memory_of (raised_by answers)) c ++ l) (counter_lines programs steps answers cs few)

totals_lines : (programs : List (List ℕ)) (steps : List ℕ) (told : List Entry) → length (answers_of told) < 2 ^ 31
    → entry_lines programs steps (totals told) ≡ last_lines (memory_of (raised_by (answers_of told))) (length (answers_of told)) (passed (answers_of told)) (length (installs_of told))
unfolding entry_lines
totals_lines programs steps told few =
    let answers = answers_of told in
    let last = total (length answers) (passed answers) (length (installs_of told)) ∷ [] in
    map-append (entry_line programs steps) (flat_map (counted_in answers) all_counters) last
    ∙ ap (λ (l : List (List ℕ)). l ++ map (entry_line programs steps) last) (counter_lines programs steps answers all_counters few)

-- the lines of all counters, and the last line
pub last_lines_are : (memory : List ℕ) (k frames passed installs : ℕ) (lines counters : List (List ℕ)) (line : List ℕ) → counter_count ≤ k →
    lines ≡ counters ++ line ∷ [] → counters ≡ counted_lines memory k → line ≡ total_line frames passed installs → lines ≡ last_lines memory frames passed installs
last_lines_are memory k frames passed installs lines counters line all is counts last =
    is ∙ ap (λ (l : List (List ℕ)). l ++ line ∷ []) (counts ∙ counted_lines-all memory k all) ∙ ap (λ (l : List ℕ). flat_map (lines_of_counter memory) all_counters ++ l ∷ []) last

-- ---- the lines of totals show neither codes nor steps

counters_apart : (programs : List (List ℕ)) (steps : List ℕ) (answers : List Answered) (cs : List Counter)
    → map (entry_line programs steps) (flat_map (counted_in answers) cs) ≡ map (entry_line [] []) (flat_map (counted_in answers) cs)
counters_apart programs steps answers [] = refl
counters_apart programs steps answers (c ∷ cs) =
    let here = counted_in answers c in
    let rest = flat_map (counted_in answers) cs in
    let n = times_raised (raised_by answers) c in
    map-append (entry_line programs steps) here rest
    ∙ ap (λ (l : List (List ℕ)). l ++ map (entry_line programs steps) rest) (one_line programs steps (n == 0) c n ∙ sym (one_line [] [] (n == 0) c n))
    ∙ ap (λ (l : List (List ℕ)). map (entry_line [] []) here ++ l) (counters_apart programs steps answers cs)
    ∙ sym (map-append (entry_line [] []) here rest)

totals_bare : (programs : List (List ℕ)) (steps : List ℕ) (told : List Entry) → entry_lines programs steps (totals told) ≡ entry_lines [] [] (totals told)
unfolding entry_lines
totals_bare programs steps told =
    let answers = answers_of told in
    let last = total (length answers) (passed answers) (length (installs_of told)) ∷ [] in
    map-append (entry_line programs steps) (flat_map (counted_in answers) all_counters) last
    ∙ ap (λ (l : List (List ℕ)). l ++ map (entry_line [] []) last) (counters_apart programs steps answers all_counters)
    ∙ sym (map-append (entry_line [] []) (flat_map (counted_in answers) all_counters) last)

-- ---- the end

-- what a filter in course writes of its counters, its numbers and its installs are the lines of the totals
pub totals_of : (c : Course) (f : Reporting) (frames lines last : List (List ℕ)) (installs : ℕ) → f.frames < 2 ^ 31 → installs ≡ f.core.install.number + 1
    → last ≡ last_lines f.core.memory f.frames f.passed installs → InCourse c f frames lines → last ≡ entry_lines [] [] (totals c.told)
totals_of c f frames lines last installs few number shown here =
    let told = c.told in
    let a = here.along in
    let raised = memory_of (raised_by (answers_of told)) in
    let many : length (installs_of told) ≡ f.core.install.number + 1 = length-AllFit a.programs (installs_of told) a.fit ∙ a.count in
    let same : f.frames ≡ length (answers_of told) = here.frames_taken ∙ a.answered in
    shown ∙ ap (λ (m : List ℕ). last_lines m f.frames f.passed installs) a.memory
    ∙ ap (λ (n : ℕ). last_lines raised n f.passed installs) same
    ∙ ap (λ (n : ℕ). last_lines raised (length (answers_of told)) n installs) here.frames_passed
    ∙ ap (λ (n : ℕ). last_lines raised (length (answers_of told)) (passed (answers_of told)) n) (number ∙ sym many)
    ∙ sym (totals_lines [] [] told (omega (arith, same, few)))

-- with them all is told
pub told_end : (d : Course) (core : Standing) (frames lines : List (List ℕ)) → Along d core frames lines → Tells (d.told ++ totals d.told) frames (lines ++ entry_lines [] [] (totals d.told))
told_end d core frames lines a =
    let told = d.told in
    let answers : answers_of (told ++ totals told) ≡ answers_of told = answers-append told (totals told) ∙ ap (λ (xs : List Answered). answers_of told ++ xs) (totals_answers (answers_of told) all_counters _ _ _) ∙ append-nil (answers_of told) in
    let all : installs_of (told ++ totals told) ≡ installs_of told = installs-append told (totals told) ∙ ap (λ (xs : List Installed). installs_of told ++ xs) (totals_apart (answers_of told) all_counters _ _ _) ∙ append-nil (installs_of told) in
    let steps = steps_from a.programs [] (answers_of told) frames in
    record {
      programs = a.programs;
      fit = subst (λ (is : List Installed). AllFit a.programs is) (sym all) a.fit;
      telling =
          ap (λ (l : List (List ℕ)). l ++ entry_lines [] [] (totals told)) (lines_told d core frames lines a)
          ∙ ap (λ (l : List (List ℕ)). entry_lines a.programs steps told ++ l) (sym (totals_bare a.programs steps told))
          ∙ sym (lines-append a.programs steps told (totals told))
          ∙ ap (λ (xs : List Answered). entry_lines a.programs (steps_from a.programs [] xs frames) (told ++ totals told)) (sym answers);
    }

-- and the lines with the totals begin each text that goes on
pub end_leads : (d : Course) (core : Standing) (frames lines : List (List ℕ)) → Along d core frames lines → Leads (d.told ++ totals d.told) frames (lines ++ entry_lines [] [] (totals d.told))
end_leads d core frames lines a = λ more later have.
    let told = d.told in
    let last = entry_lines [] [] (totals told) in
    let r = leads_lines d core frames lines a (totals told ++ more) later
    (codes_behind told (totals told ++ more) (subst (λ (es : List Entry). AllHaveCodes (installs_of es)) (append_assoc told (totals told) more) have)) in
    let rest = entry_lines r.0 r.1 more in
    let split : lines ++ entry_lines r.0 r.1 (totals told ++ more) ≡ (lines ++ last) ++ rest =
    ap (λ (l : List (List ℕ)). lines ++ l) (lines-append r.0 r.1 (totals told) more ∙ ap (λ (l : List (List ℕ)). l ++ rest) (totals_bare r.0 r.1 told)) ∙ sym (append_assoc lines last rest) in (
      rest,
      subst (λ (es : List Entry). Tells es (frames ++ later) ((lines ++ last) ++ rest)) (sym (append_assoc told (totals told) more))
          (subst (λ (ls : List (List ℕ)). Tells (told ++ (totals told ++ more)) (frames ++ later) ls) split r.2),
    )
