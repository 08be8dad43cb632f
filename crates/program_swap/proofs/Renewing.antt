-- Answers that are given again, frame by frame.
use Rattle.std.proofs.Common.{◌≡◌, ℕ, ◌+◌, ◌-◌, ◌<◌, ◌≤◌, Bool, true, false, cond, zero, suc, max, List, [], ◌∷◌, ◌++◌, length, take, drop, map, get_or, replicate, refl, sym, ap, subst, ◌∙◌, arith, append_assoc, inl, inr, ◌⊎◌, Option, Some, None}
use Rattle.std.specs.Prelude.{nat_lt}
use Rattle.std.proofs.lemmas.Bool.{cases_lt, lt-ltb, le-ltb}
use Rattle.std.proofs.lemmas.List.{append-nil, length-append, length-drop, drop_more, drop_all, take_more, take_all, take-append-drop, map-append}
use mathlib.Core.List.{IsPrefix}
use Rattle.logbook.specs.Pages.{Book}
use Rattle.apf_base.specs.Limits.{memory_size}
use Rattle.apf_generate.specs.Means.{memory_after}
use Rattle.data_counters.specs.Memory.{raised}
use Rattle.data_counters.specs.declared.counter.Counter.{Counter}
use Rattle.data_counters.specs.declared.counter.Counter.TheVariants.{TotalPackets}
use Rattle.dealt_items.specs.Dealing.{every, hands}
use Rattle.dealt_items.proofs.Dealing.{hands-snoc}
use Rattle.filter_core.specs.Coded.{IsAnswer}
use Rattle.filter_core.specs.declared.install.Install.{Install}
use Rattle.filter_core.specs.Lanes.{IsOneOf, RisesFrom, LaneAnswers, LaneRuns, LanesRun}
use Rattle.filter_core.specs.Replay.{Arrival}
use Rattle.pcap_files.specs.Capture.{frame_of}
use Rattle.pcap_files.specs.declared.kinds.Placed.{Placed}
use Rattle.policy_state.specs.Policy.{questions}
use Rattle.policy_state.specs.Asking.{first_of}
use Rattle.policy_state.specs.Whole.{Fate, Short, fate_of, counter_of_fate}
use Rattle.policy_state.specs.declared.basis.Answer.{Answer}
use Rattle.policy_state.specs.declared.ruling.Ruling.{Ruling}
use Rattle.policy_state.specs.declared.ruling.Ruling.TheVariants as rulings
use Rattle.program_swap.specs.Again.{AnswersAgain, KeepsNamed, AllKeepNamed}
use Rattle.program_swap.specs.Driving.{HasAnsweredShare, HaveAnswered}
use Rattle.program_swap.specs.Histories.{HasLast, RisesByOne}
use Rattle.program_swap.specs.Order.{NoneBelow, EndState}
use Rattle.program_swap.specs.declared.again.ShareAnswers.{ShareAnswers}
use Rattle.program_swap.proofs.Driving.{at_clock, left_from, next-turn}
use Rattle.program_swap.proofs.Fitting.{rises_at}
use Rattle.program_swap.proofs.Rising.{rises_end}

-- ---- counters

-- what a frame of more than 14 bytes raises
abbrev pub raised_by : Option Counter → List ℕ → List ℕ
raised_by None memory = raised TotalPackets memory
raised_by (Some c) memory = raised c (raised TotalPackets memory)

by-fate : (r : Ruling) (c : Option Counter) (memory : List ℕ) → c ≡ counter_of_fate (fate_of r) → memory_after (fate_of r) memory ≡ raised_by c memory
by-fate rulings.Missing c memory e = sym (ap (λ (o : Option Counter). raised_by o memory) e)
by-fate rulings.Silent c memory e = sym (ap (λ (o : Option Counter). raised_by o memory) e)
by-fate (rulings.Says verdict k) c memory e = sym (ap (λ (o : Option Counter). raised_by o memory) e)

abbrev fate_at : Bool → Ruling → Fate
fate_at long r = cond long (fate_of r) Short

long-fate : (t : Bool) (r : Ruling) (c : Option Counter) (before after : List ℕ) → t ≡ true → c ≡ counter_of_fate (fate_at t r) → after ≡ memory_after (fate_at t r) before → after ≡ raised_by c before
long-fate true r c before after e counter is = is ∙ by-fate r c before counter
long-fate false r c before after e counter is = absurd (cc e)

short-fate : (t : Bool) (r : Ruling) (before after : List ℕ) → t ≡ false → after ≡ memory_after (fate_at t r) before → after ≡ before
short-fate true r before after e is = absurd (cc e)
short-fate false r before after e is = is

pub short-raises : (i : Install) (frame : List ℕ) (now : ℕ) (before : List ℕ) (a : Answer) (after : List ℕ) → length frame ≤ 14 → IsAnswer i frame now before a after → before ≡ after
short-raises i frame now before a after le t = sym (short-fate (nat_lt 14 (length frame)) (first_of (questions i.basis (now - i.at) frame)) before after (le-ltb 14 (length frame) le) t.raised)

pub long-raises : (i : Install) (frame : List ℕ) (now : ℕ) (before : List ℕ) (a : Answer) (after : List ℕ) → 14 < length frame → IsAnswer i frame now before a after → raised_by a.counter before ≡ after
long-raises i frame now before a after lt t =
    sym (long-fate (nat_lt 14 (length frame)) (first_of (questions i.basis (now - i.at) frame)) a.counter before after (lt-ltb 14 (length frame) lt) t.counter t.raised)

-- ---- numbers

-- no answer has a number above this
abbrev pub NoneAbove : ℕ → List Answer → Type 0
NoneAbove n [] = Unit {0}
NoneAbove n (a ∷ more) = (a.number ≤ n) × NoneAbove n more

above-snoc : (n : ℕ) (xs : List Answer) (a : Answer) → NoneAbove n xs → a.number ≤ n → NoneAbove n (xs ++ a ∷ [])
above-snoc n [] a h le = (le, tt)
above-snoc n (x ∷ xs) a h le = (h.0, above-snoc n xs a h.1 le)

above-more : (n k : ℕ) (xs : List Answer) → n ≤ k → NoneAbove n xs → NoneAbove k xs
above-more n k [] le h = tt
above-more n k (x ∷ xs) le h = (omega (arith, le, h.0), above-more n k xs le h.1)

-- the numbers of what a lane answered are no less than its least
below-runs : (view : List Install) (least : ℕ) (memory : List ℕ) (xs : List Arrival) (answers : List Answer) (left : List ℕ) → LaneAnswers view least memory xs answers left → (n : ℕ) → n ≤ least → NoneBelow n answers
below-runs view least memory [] [] left h n le = tt
below-runs view least memory [] (a ∷ answers) left h n le = absurd h
below-runs view least memory (x ∷ xs) [] left h n le = absurd h
below-runs view least memory (x ∷ xs) (a ∷ answers) left h n le =
    (omega (arith, h.2, h.4.number, le), below-runs view h.0.number h.3 xs answers left h.5 n (omega (arith, h.2, le)))

length-runs : (view : List Install) (least : ℕ) (memory : List ℕ) (xs : List Arrival) (answers : List Answer) (left : List ℕ) → LaneAnswers view least memory xs answers left → length answers ≡ length xs
length-runs view least memory [] [] left h = refl
length-runs view least memory [] (a ∷ answers) left h = absurd h
length-runs view least memory (x ∷ xs) [] left h = absurd h
length-runs view least memory (x ∷ xs) (a ∷ answers) left h = omega (arith, length-runs view h.0.number h.3 xs answers left h.5)

-- an install of a longer list with a number of the list's own is of the list
front-of : (before later list rest : List Install) (i : Install) → list ++ rest ≡ before ++ i ∷ later → length before < length list → IsOneOf i list
front-of before later [] rest i e lt = absurd (omega arith)
front-of [] later (x ∷ list) rest i e lt = let same : x ≡ i = cc e in ([], list, ap (λ (y : Install). y ∷ list) same)
front-of (b ∷ before) later (x ∷ list) rest i e lt =
    let first : x ≡ b = cc e in
    let r = front-of before later list rest i (cc e) (omega arith) in
    (b ∷ r.0, r.1, ap (λ (y : Install). y ∷ list) first ∙ ap (λ (is : List Install). b ∷ is) r.2)

in_front : (list view : List Install) (last i : Install) → RisesFrom 0 list → RisesFrom 0 view → IsPrefix list view → HasLast list last → IsOneOf i view → i.number ≤ last.number → IsOneOf i list
in_front list view last i rises grows pre end one le =
    let top : last.number ≡ 0 + length end.0 = rises_end 0 end.0 last (subst (RisesFrom 0) end.1 rises) in
    let number : i.number ≡ 0 + length one.0 = rises_at 0 one.0 one.1 i (subst (RisesFrom 0) one.2 grows) in
    let long : length list ≡ length end.0 + 1 = ap length end.1 ∙ length-append end.0 (last ∷ []) in
    front-of one.0 one.1 list pre.0 i (pre.1 ∙ one.2) (omega (arith, top, number, long, le))

-- a list that begins with install 0
pub rises-from_zero : (list view : List Install) → 0 < length list → RisesFrom 0 list → IsPrefix list view → RisesByOne view → RisesFrom 0 view
rises-from_zero [] view some rises pre h = absurd (omega arith)
rises-from_zero (x ∷ list) [] some rises pre h = absurd (cc pre.1)
rises-from_zero (x ∷ list) (y ∷ view) some rises pre h =
    let same : x ≡ y = cc pre.1 in
    let number = ap (λ (i : Install). i.number) same in
    let start : h.0 ≡ 0 = omega (arith, number, rises.0, h.1.0) in
    subst (λ (n : ℕ). RisesFrom n (y ∷ view)) start h.1

-- ---- one frame

run_snoc : (list : List Install) (least : ℕ) (memory : List ℕ) (xs : List Arrival) (answers : List Answer) (left : List ℕ) (x : Arrival) (a : Answer) (i : Install) (after : List ℕ) → LaneAnswers list least memory xs answers left → IsOneOf i list
    → NoneAbove i.number answers → least ≤ i.number → IsAnswer i x.frame x.second left a after → LaneAnswers list least memory (xs ++ x ∷ []) (answers ++ a ∷ []) after
run_snoc list least memory [] [] left x a i after h one most le t = (i, one, le, after, subst (λ (b : List ℕ). IsAnswer i x.frame x.second b a after) h t, refl)
run_snoc list least memory [] (b ∷ answers) left x a i after h one most le t = absurd h
run_snoc list least memory (y ∷ xs) [] left x a i after h one most le t = absurd h
run_snoc list least memory (y ∷ xs) (b ∷ answers) left x a i after h one most le t =
    (h.0, h.1, h.2, h.3, h.4, run_snoc list h.0.number h.3 xs answers left x a i after h.5 one most.1 (omega (arith, most.0, h.4.number)) t)

-- what is left of the answers of before: they go on from this memory; or they are all by installs beyond the list
abbrev pub Remains : List Install → ℕ → List ℕ → List Arrival → List Answer → List Answer → List ℕ → Type 0
Remains view top memory left kept given final =
    ((least : ℕ) × LaneAnswers view least memory left kept final × NoneAbove least given × (least ≤ top))
    ⊎ (NoneBelow (top + 1) kept × (length kept ≡ length left))

keeps-snoc : (n : ℕ) (ks as' : List Answer) (k a : Answer) → KeepsNamed n ks as' → (k.number < n → a ≡ k) → KeepsNamed n (ks ++ k ∷ []) (as' ++ a ∷ [])
keeps-snoc n [] [] k a h same = (same, tt)
keeps-snoc n [] (b ∷ as') k a h same = absurd h
keeps-snoc n (l ∷ ks) [] k a h same = absurd h
keeps-snoc n (l ∷ ks) (b ∷ as') k a h same = (h.0, keeps-snoc n ks as' k a h.1 same)

-- some of all frames were answered again, and these are left
pub record Renews (list view : List Install) (top : ℕ) (all left : List Arrival) (kept : List Answer) (final : List ℕ) (again : ShareAnswers) : Type 0 where
  pub done : List Arrival
  pub whole : done ++ left ≡ all
  pub runs : LaneAnswers list 0 (replicate memory_size 0) done again.answers again.memory
  pub most : NoneAbove top again.answers
  pub rest : Remains view top again.memory left (drop (length again.answers) kept) again.answers final
  pub same : KeepsNamed (top + 1) (take (length again.answers) kept) again.answers

pub renews-none : (list view : List Install) (top : ℕ) (all : List Arrival) (kept : List Answer) (final : List ℕ) (again : ShareAnswers) → again.answers ≡ [] → again.memory ≡ replicate memory_size 0
    → LaneAnswers view 0 (replicate memory_size 0) all kept final → Renews list view top all all kept final again
renews-none list view top all kept final again none zeros h =
    let own = subst (λ (b : List ℕ). LaneAnswers view 0 b all kept final) (sym zeros) h in
    let seen = subst (λ (as' : List Answer). NoneAbove 0 as') (sym none) tt in
    record {
      done = [];
      whole = refl;
      runs = subst (λ (as' : List Answer). LaneAnswers list 0 (replicate memory_size 0) [] as' again.memory) (sym none) zeros;
      most = subst (λ (as' : List Answer). NoneAbove top as') (sym none) tt;
      rest = subst (λ (as' : List Answer). Remains view top again.memory all (drop (length as') kept) as' final) (sym none) (inl (0, own, tt, omega arith));
      same = subst (λ (as' : List Answer). KeepsNamed (top + 1) (take (length as') kept) as') (sym none) tt;
    }

remains-length : (view : List Install) (top : ℕ) (memory : List ℕ) (left : List Arrival) (kept given : List Answer) (final : List ℕ) → Remains view top memory left kept given final → length kept ≡ length left
remains-length view top memory left kept given final (inl h) = length-runs view h.0 memory left kept final h.1
remains-length view top memory left kept given final (inr h) = h.1

-- there is an answer of before
pub renews-room : (list view : List Install) (top : ℕ) (all left : List Arrival) (x : Arrival) (kept : List Answer) (final : List ℕ) (again : ShareAnswers) → Renews list view top all (x ∷ left) kept final again → length again.answers < length kept
renews-room list view top all left x kept final again on =
    let long = remains-length view top again.memory (x ∷ left) (drop (length again.answers) kept) again.answers final on.rest in
    omega (arith, long, length-drop (length again.answers) kept)

pub renews-more : (list view : List Install) (last : Install) (all left : List Arrival) (x : Arrival) (kept : List Answer) (final : List ℕ) (old new : ShareAnswers) (a d : Answer) → RisesFrom 0 list → RisesFrom 0 view → IsPrefix list view
    → HasLast list last → Renews list view last.number all (x ∷ left) kept final old → a ≡ get_or kept (length old.answers) d → length old.answers < length kept → AnswersAgain last x.frame x.second a old new
    → Renews list view last.number all left kept final new
renews-more list view last all left x kept final old new a d rises grows pre end on is lt t =
    let k = length old.answers in
    let front : drop k kept ≡ a ∷ drop (k + 1) kept = drop_more kept k d lt ∙ ap (λ (b : Answer). b ∷ drop (k + 1) kept) (sym is) in
    let long : length new.answers ≡ k + 1 = ap length t.added ∙ length-append old.answers (t.answer ∷ []) in
    let rest = subst (λ (as' : List Answer). Remains view last.number old.memory (x ∷ left) as' old.answers final) front on.rest in
    let taken : take (length new.answers) kept ≡ take k kept ++ a ∷ [] = ap (λ (n : ℕ). take n kept) long ∙ take_more kept k d lt ∙ ap (λ (b : Answer). take k kept ++ b ∷ []) (sym is) in
    let named = keeps-snoc (last.number + 1) (take k kept) old.answers a t.answer on.same (λ within. t.same (omega (arith, within))) in
    let made : (i : Install) → IsOneOf i list → NoneAbove i.number old.answers → i.number ≤ last.number → IsAnswer i x.frame x.second old.memory t.answer new.memory → (Remains view last.number new.memory left (drop (k + 1) kept) (old.answers ++ t.answer ∷ []) final)
    → Renews list view last.number all left kept final new =
    λ i one most le answered remains. record {
      done = on.done ++ x ∷ [];
      whole = append_assoc on.done (x ∷ []) left ∙ on.whole;
      runs = subst (λ (as' : List Answer). LaneAnswers list 0 (replicate memory_size 0) (on.done ++ x ∷ []) as' new.memory) (sym t.added)
          (run_snoc list 0 (replicate memory_size 0) on.done old.answers old.memory x t.answer i new.memory on.runs one most (omega arith) answered);
      most = subst (λ (as' : List Answer). NoneAbove last.number as') (sym t.added) (above-snoc last.number old.answers t.answer on.most (omega (arith, answered.number, le)));
      rest = subst (λ (n : ℕ). Remains view last.number new.memory left (drop n kept) new.answers final) (sym long)
          (subst (λ (as' : List Answer). Remains view last.number new.memory left (drop (k + 1) kept) as' final) (sym t.added) remains);
      same = subst (λ (as' : List Answer). KeepsNamed (last.number + 1) (take (length new.answers) kept) as') (sym t.added)
          (subst (λ (ks : List Answer). KeepsNamed (last.number + 1) ks (old.answers ++ t.answer ∷ [])) (sym taken) named);
    } in
    let by_last : last.number < a.number → NoneBelow (last.number + 1) (drop (k + 1) kept) × (length (drop (k + 1) kept) ≡ length left) → Renews list view last.number all left kept final new =
    λ beyond below. made last (end.0, [], end.1) on.most (omega arith) (t.anew beyond) (inr below) in
    elim rest [
      | inl h ↦ elim (cases_lt last.number a.number) [
        | inl beyond ↦ (let run = h.1 in by_last beyond (
          below-runs view run.0.number run.3 left (drop (k + 1) kept) final run.5 (last.number + 1) (omega (arith, beyond, run.4.number)),
          length-runs view run.0.number run.3 left (drop (k + 1) kept) final run.5,
        ))
        | inr within ↦ (
            let run = h.1 in
            let i = run.0 in
            let le : i.number ≤ last.number = omega (arith, within, run.4.number) in
            let same = t.same within in
            let memory : new.memory ≡ run.3 = t.raised within i x.second run.3 run.4 in
            let answered = subst (λ (b : List ℕ). IsAnswer i x.frame x.second old.memory t.answer b) (sym memory) (subst (λ (b : Answer). IsAnswer i x.frame x.second old.memory b run.3) (sym same) run.4) in
            let goes = subst (λ (b : List ℕ). LaneAnswers view i.number b left (drop (k + 1) kept) final) (sym memory) run.5 in
            let seen = above-more h.0 i.number old.answers run.2 h.2 in
            made i (in_front list view last i rises grows pre end run.1 le) seen le answered
            (inl (i.number, goes, above-snoc i.number old.answers t.answer seen (omega (arith, answered.number)), le))
            )
      ]
      | inr h ↦ by_last (omega (arith, h.0.0)) (h.0.1, omega (arith, h.1))
    ]

pub renews-all : (list view : List Install) (top : ℕ) (all : List Arrival) (kept : List Answer) (final : List ℕ) (again : ShareAnswers) → Renews list view top all [] kept final again → LaneAnswers list 0 (replicate memory_size 0) all again.answers again.memory
renews-all list view top all kept final again on =
    let same : on.done ≡ all = sym (append-nil on.done) ∙ on.whole in
    subst (λ (xs : List Arrival). LaneAnswers list 0 (replicate memory_size 0) xs again.answers again.memory) same on.runs

-- what was given again is what was kept, up to the list's last install
pub renews-kept : (list view : List Install) (last : Install) (all : List Arrival) (kept : List Answer) (final : List ℕ) (again : ShareAnswers) → RisesFrom 0 list → HasLast list last → Renews list view last.number all [] kept final again
    → KeepsNamed (length list) kept again.answers
renews-kept list view last all kept final again rises end on =
    let top : last.number ≡ 0 + length end.0 = rises_end 0 end.0 last (subst (RisesFrom 0) end.1 rises) in
    let long : length list ≡ length end.0 + 1 = ap length end.1 ∙ length-append end.0 (last ∷ []) in
    let count : last.number + 1 ≡ length list = omega (arith, top, long) in
    let none = remains-length view last.number again.memory [] (drop (length again.answers) kept) again.answers final on.rest in
    let whole : take (length again.answers) kept ≡ kept = take_all (length again.answers) kept (omega (arith, none, length-drop (length again.answers) kept)) in
    subst (λ (n : ℕ). KeepsNamed n kept again.answers) count (subst (λ (ks : List Answer). KeepsNamed (last.number + 1) ks again.answers) whole on.same)

-- the frame of a record was answered again
pub renews-answer : (list view : List Install) (last : Install) (all : List Arrival) (kept : List Answer) (final : List ℕ) (old new : ShareAnswers) (k : ℕ) (b : Answer) (clock next wait others : ℕ) (capture : List ℕ) (frames : List Placed) (i : ℕ) (d : Placed)
    (bytes : List ℕ) → RisesFrom 0 list → RisesFrom 0 view → IsPrefix list view → HasLast list last → i < length frames → wait ≤ 0 → next ≡ max clock (get_or frames i d).stamp.sec → bytes ≡ frame_of capture (get_or frames i d)
    → Renews list view last.number all (left_from clock wait others capture frames i) kept final old → k ≡ length old.answers → AnswersAgain last bytes next (get_or kept k b) old new
    → Renews list view last.number all (left_from next others others capture frames (i + 1)) kept final new
renews-answer list view last all kept final old new k b clock next wait others capture frames i d bytes rises grows pre end lt none e same on at t =
    let f = get_or frames i d in
    let a = get_or kept k b in
    let here = subst (λ (xs : List Arrival). Renews list view last.number all xs kept final old) (next-turn clock wait others capture frames i d lt none) on in
    let left = left_from (max clock f.stamp.sec) others others capture frames (i + 1) in
    let x = at_clock (max clock f.stamp.sec) capture f in
    let there = subst (λ (u : List ℕ). AnswersAgain last u next a old new) same t in
    let then = subst (λ (n : ℕ). AnswersAgain last (frame_of capture f) n a old new) e there in
    let is : a ≡ get_or kept (length old.answers) b = ap (λ (n : ℕ). get_or kept n b) at in
    subst (λ (n : ℕ). Renews list view last.number all (left_from n others others capture frames (i + 1)) kept final new) (sym e)
    (renews-more list view last all left x kept final old new a b rises grows pre end here is (renews-room list view last.number all left x kept final old here) then)

-- ---- lists

pub last-stands : (list : List Install) (i d : Install) → 0 < length list → i ≡ get_or list (length list - 1) d → HasLast list i
last-stands list i d some is =
    let n : ℕ = length list - 1 in
    let none : drop (n + 1) list ≡ [] = drop_all (n + 1) list (omega (arith, some)) in
    let end : drop n list ≡ i ∷ [] = drop_more list n d (omega (arith, some)) ∙ ap (λ (rest : List Install). get_or list n d ∷ rest) none ∙ ap (λ (y : Install). y ∷ []) (sym is) in
    (take n list, sym (take-append-drop n list) ∙ ap (λ (rest : List Install). take n list ++ rest) end)

pub lanes-snoc : (list : List Install) (shares : List (List Arrival)) (answers : List (List Answer)) (memories : List (List ℕ)) (share : List Arrival) (more : List Answer) (memory : List ℕ) → LanesRun list shares answers memories → LaneRuns list share more memory
    → LanesRun list (shares ++ share ∷ []) (answers ++ more ∷ []) (memories ++ memory ∷ [])
lanes-snoc list [] [] [] share more memory h s = (s, tt)
lanes-snoc list [] [] (m ∷ memories) share more memory h s = absurd h
lanes-snoc list [] (a ∷ answers) memories share more memory h s = absurd h
lanes-snoc list (x ∷ shares) [] memories share more memory h s = absurd h
lanes-snoc list (x ∷ shares) (a ∷ answers) [] share more memory h s = absurd h
lanes-snoc list (x ∷ shares) (a ∷ answers) (m ∷ memories) share more memory h s = (h.0, lanes-snoc list shares answers memories share more memory h.1 s)

-- one share more
pub shares-more : (list : List Install) (others n m : ℕ) (xs : List Arrival) (old new : List ShareAnswers) (share : ShareAnswers) → m ≡ suc n
    → LanesRun list (hands 0 n others xs) (map (λ (s : ShareAnswers). s.answers) old) (map (λ (s : ShareAnswers). s.memory) old) → LaneRuns list (every n others xs) share.answers share.memory → new ≡ old ++ share ∷ []
    → LanesRun list (hands 0 m others xs) (map (λ (s : ShareAnswers). s.answers) new) (map (λ (s : ShareAnswers). s.memory) new)
shares-more list others n m xs old new share next on ran is =
    let answers = λ (s : ShareAnswers). s.answers in
    let memory = λ (s : ShareAnswers). s.memory in
    let more = lanes-snoc list (hands 0 n others xs) (map answers old) (map memory old) (every n others xs) share.answers share.memory on ran in
    let dealt' : hands 0 (suc n) others xs ≡ hands 0 n others xs ++ every n others xs ∷ [] = hands-snoc 0 n others n xs (omega arith) in
    let one = subst (λ (ss : List (List Arrival)). LanesRun list ss (map answers old ++ share.answers ∷ []) (map memory old ++ share.memory ∷ [])) (sym dealt') more in
    let two = subst (λ (as' : List (List Answer)). LanesRun list (hands 0 (suc n) others xs) as' (map memory old ++ share.memory ∷ [])) (sym (map-append answers old (share ∷ []))) one in
    let three = subst (λ (ms : List (List ℕ)). LanesRun list (hands 0 (suc n) others xs) (map answers (old ++ share ∷ [])) ms) (sym (map-append memory old (share ∷ []))) two in
    let four = subst (λ (ss : List ShareAnswers). LanesRun list (hands 0 (suc n) others xs) (map answers ss) (map memory ss)) (sym is) three in
    subst (λ (k : ℕ). LanesRun list (hands 0 k others xs) (map answers new) (map memory new)) (sym next) four

all-keep-snoc : (n : ℕ) (es : List EndState) (as' : List (List Answer)) (e : EndState) (a : List Answer) → AllKeepNamed n es as' → KeepsNamed n e.answers a → AllKeepNamed n (es ++ e ∷ []) (as' ++ a ∷ [])
all-keep-snoc n [] [] e a h same = (same, tt)
all-keep-snoc n [] (b ∷ as') e a h same = absurd h
all-keep-snoc n (x ∷ es) [] e a h same = absurd h
all-keep-snoc n (x ∷ es) (b ∷ as') e a h same = (h.0, all-keep-snoc n es as' e a h.1 same)

pub kept-more : (n : ℕ) (es : List EndState) (hand : ℕ) (e : EndState) (old new : List ShareAnswers) (share : ShareAnswers) → hand < length es → e ≡ get_or es hand e
    → AllKeepNamed n (take hand es) (map (λ (s : ShareAnswers). s.answers) old) → KeepsNamed n e.answers share.answers → new ≡ old ++ share ∷ []
    → AllKeepNamed n (take (hand + 1) es) (map (λ (s : ShareAnswers). s.answers) new)
kept-more n es hand e old new share lt at on same is =
    let taken : take (hand + 1) es ≡ take hand es ++ e ∷ [] = take_more es hand e lt ∙ ap (λ (x : EndState). take hand es ++ x ∷ []) (sym at) in
    let listed : map (λ (s : ShareAnswers). s.answers) new ≡ map (λ (s : ShareAnswers). s.answers) old ++ share.answers ∷ [] =
    ap (map (λ (s : ShareAnswers). s.answers)) is ∙ map-append (λ (s : ShareAnswers). s.answers) old (share ∷ []) in
    subst (λ (xs : List EndState). AllKeepNamed n xs (map (λ (s : ShareAnswers). s.answers) new)) (sym taken)
    (subst (λ (xs : List (List Answer)). AllKeepNamed n (take hand es ++ e ∷ []) xs) (sym listed) (all-keep-snoc n (take hand es) _ e share.answers on same))

pub kept-all : (n : ℕ) (es : List EndState) (hand : ℕ) (shares : List ShareAnswers) → length es ≤ hand → AllKeepNamed n (take hand es) (map (λ (s : ShareAnswers). s.answers) shares) → AllKeepNamed n es (map (λ (s : ShareAnswers). s.answers) shares)
kept-all n es hand shares le on = subst (λ (xs : List EndState). AllKeepNamed n xs (map (λ (s : ShareAnswers). s.answers) shares)) (take_all hand es le) on

-- what the lane at a place has answered
pub answered-at : (own : Book) (told : List Install) (others first n : ℕ) (xs : List Arrival) (es : List EndState) → HaveAnswered own told (hands first n others xs) es → (i hand : ℕ) (d : EndState) → hand ≡ first + i → i < length es
    → HasAnsweredShare own told (every hand others xs) (get_or es i d)
answered-at own told others first zero xs [] h i hand d e lt = absurd (omega arith)
answered-at own told others first zero xs (x ∷ es) h i hand d e lt = absurd h
answered-at own told others first (suc n) xs [] h i hand d e lt = absurd h
answered-at own told others first (suc n) xs (x ∷ es) h zero hand d e lt = let same : first ≡ hand = omega arith in subst (λ (k : ℕ). HasAnsweredShare own told (every k others xs) x) same h.0
answered-at own told others first (suc n) xs (x ∷ es) h (suc i) hand d e lt = answered-at own told others (suc first) n xs es h.1 i hand d (omega arith) (omega arith)
