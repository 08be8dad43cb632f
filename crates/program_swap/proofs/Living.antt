-- Lanes that have answered their shares.
use Rattle.std.proofs.Common.{◌≡◌, ℕ, ◌+◌, ◌-◌, ◌%◌, ◌^◌, ◌<◌, ◌≤◌, suc, max, List, [], ◌∷◌, ◌++◌, length, replicate, take, get_or, refl, sym, ap, subst, ◌∙◌, arith, append_assoc, inl, inr, Option, Some, None}
use Rattle.std.proofs.lemmas.Bool.{cases_lt}
use Rattle.std.proofs.lemmas.List.{append-nil, length-append, length-map, drop_all, take_all}
use Rattle.std.proofs.lemmas.List.Elements.{All-head, All-tail, All-nil, All-cons}
use Rattle.std.proofs.lemmas.List.Sums.{sum_by-cons}
use Rattle.std.specs.Prelude.{All, IfSome, sum_by}
use mathlib.Core.List.{IsPrefix}
use Rattle.logbook.specs.Pages.{Book}
use Rattle.apf_base.specs.Lending.{overwritten}
use Rattle.apf_base.specs.Limits.{memory_size}
use Rattle.dealt_items.specs.Dealing.{every, hands, dealt}
use Rattle.dealt_items.proofs.Dealing.{sum-dealt}
use Rattle.dealt_items.proofs.Sharing.{length-every, most-first}
use Rattle.filter_core.specs.Arrivals.{arrival_of, arrivals_of}
use Rattle.filter_core.specs.declared.install.Install.{Install}
use Rattle.filter_core.specs.Lanes.{IsOneOf, RisesFrom, clocked, LaneAnswers}
use Rattle.filter_core.specs.Replay.{Arrival}
use Rattle.pcap_files.specs.declared.kinds.Placed.{Placed}
use Rattle.policy_state.specs.declared.basis.Answer.{Answer}
use Rattle.program_swap.specs.Driving.{turns_of, dealt_frames, AnswersAll, MayAnswer, MayEnd, HasDone, AreDone, HasInstalled, IsEnd, AreEnded, IsFresh, HasAnsweredShare, HaveAnswered}
use Rattle.program_swap.specs.Histories.{HasLast, History, InstallerState}
use Rattle.program_swap.specs.Order.{LaneState, EndState}
use Rattle.program_swap.proofs.Keeping.{prefix_trans}
use Rattle.program_swap.proofs.Rising.{rises_end, prefix_rises}

-- ---- one lane

answers-prefix : (l : LaneState) (xs : List Arrival) (m : LaneState) → AnswersAll l xs m → IsPrefix l.view m.view
answers-prefix l [] m e = ([], append-nil l.view ∙ ap (λ (t : LaneState). t.view) (sym e))
answers-prefix l (x ∷ xs) m h = prefix_trans l.view h.0.view m.view h.2.view (answers-prefix h.0 xs m h.3)

one_of : (i : Install) (view all : List Install) → HasLast view i → IsPrefix view all → IsOneOf i all
one_of i view all last pre = (last.0, pre.0, sym pre.1 ∙ ap (λ is. is ++ pre.0) last.1 ∙ append_assoc last.0 (i ∷ []) pre.0)

length-prefix : (xs ys : List Install) → IsPrefix xs ys → length xs ≤ length ys
length-prefix xs ys pre = let long = ap length pre.1 in omega (arith, long, length-append xs pre.0)

-- what a lane answered for some frames, and how its answers went on
pub lane-answers : (n : ℕ) (all : List Install) (l : LaneState) (xs : List Arrival) (m : LaneState) (least : ℕ) → RisesFrom n all → AnswersAll l xs m → IsPrefix m.view all → least ≤ n + (length l.view - 1)
    → (more : List Answer) × (m.answers ≡ l.answers ++ more) × LaneAnswers all least l.memory xs more m.memory
lane-answers n all l [] m least rises e pre le = ([], ap (λ (t : LaneState). t.answers) e ∙ sym (append-nil l.answers), ap (λ (t : LaneState). t.memory) e)
lane-answers n all l (x ∷ xs) m least rises h pre le =
    let t = h.2 in
    let seen = prefix_trans h.0.view m.view all (answers-prefix h.0 xs m h.3) pre in
    let number : t.by.number ≡ n + length t.last.0 = rises_end n t.last.0 t.by (subst (RisesFrom n) t.last.1 (prefix_rises n h.0.view all seen rises)) in
    let long : length h.0.view ≡ length t.last.0 + 1 = ap length t.last.1 ∙ length-append t.last.0 (t.by ∷ []) in
    let grown = length-prefix l.view h.0.view t.view in
    let r = lane-answers n all h.0 xs m t.by.number rises h.3 pre (omega (arith, number, long)) in (
      h.1 ∷ r.0,
      r.1 ∙ ap (λ (us : List Answer). us ++ r.0) t.kept ∙ append_assoc l.answers (h.1 ∷ []) r.0,
      (t.by, one_of t.by h.0.view all t.last seen, omega (arith, number, long, grown, le), h.0.memory, t.answered, r.2),
    )

length-clocked : (clock : ℕ) (xs : List Arrival) → length (clocked clock xs) ≡ length xs
length-clocked clock [] = refl
length-clocked clock (x ∷ xs) = omega (arith, length-clocked (max clock x.second) xs)

-- ---- installs that a lane knows

known-all : (old new : InstallerState) (nexts : List Install) (token : Option History) (view : List Install) → HasInstalled old nexts new token → IsPrefix old.published view → IfSome token (λ t. IsPrefix t.installs view)
    → IsPrefix (old.published ++ nexts) view
known-all old new nexts None view h pre knows = subst (λ (is : List Install). IsPrefix is view) (sym (append-nil old.published) ∙ ap (λ (is : List Install). old.published ++ is) (sym h.none)) pre
known-all old new nexts (Some t) view h pre knows = subst (λ (is : List Install). IsPrefix is view) (ap (λ (s : History). s.installs) h.told ∙ ap (λ (s : InstallerState). s.published) h.published) knows

-- a lane that has as many answers as frames
lane-whole : (old new : InstallerState) (nexts : List Install) (token : Option History) (share : List Arrival) (l m : LaneState) (e : EndState) → HasInstalled old nexts new token → IsFresh old.board old.published l
    → HasDone l (clocked 0 share) m → IsEnd token m e → e.entered ≡ length share → HasAnsweredShare old.board (old.published ++ nexts) share e
lane-whole old new nexts token share l m e installed fresh done end whole =
    let is = fresh.1 in
    let zero : l.entered ≡ 0 = ap (λ (t : LaneState). t.entered) is in
    let all = done.whole (omega (arith, zero, end.entered, whole, length-clocked 0 share)) in
    let r = lane-answers end.rising.0 e.view l (clocked 0 share) m 0 end.rising.1 all end.view (omega arith) in
    let answers : e.answers ≡ r.0 = end.answers ∙ r.1 ∙ ap (λ (t : LaneState). t.answers ++ r.0) is in
    let begun = subst (λ (b : List ℕ). LaneAnswers e.view 0 b (clocked 0 share) r.0 m.memory) (ap (λ (t : LaneState). t.memory) is) r.2 in
    let kept = subst (λ (us : List Answer). LaneAnswers e.view 0 (replicate memory_size 0) (clocked 0 share) us m.memory) (sym answers) begun in
    let read = subst (λ (v : List Install). IsPrefix v m.view) (ap (λ (t : LaneState). t.view) is) (answers-prefix l (clocked 0 share) m all) in
    record {
      board = end.board ∙ done.board ∙ ap (λ (t : LaneState). t.board) is;
      view = known-all old new nexts token e.view installed (prefix_trans old.published m.view e.view read end.view) end.told;
      rising = end.rising;
      entered = whole;
      answers = sym end.counted ∙ whole;
      runs = subst (λ (b : List ℕ). LaneAnswers e.view 0 (replicate memory_size 0) (clocked 0 share) e.answers b) (sym end.memory) kept;
    }

-- ---- all lanes

abbrev pub entered_by : List EndState → ℕ
entered_by es = sum_by (λ (e : EndState). e.entered) es

abbrev pub refused_by : List LaneState → ℕ
refused_by ls = sum_by (λ (l : LaneState). l.refused) ls

-- how many frames, counted one by one
abbrev ones : List Arrival → ℕ
ones xs = sum_by (λ (x : Arrival). 1) xs

ones-length : (xs : List Arrival) → ones xs ≡ length xs
ones-length [] = refl
ones-length (x ∷ xs) = omega (arith, sum_by-cons (λ (y : Arrival). 1) x xs, ones-length xs)

-- no lane has more answers than frames
lanes-most : (board : Book) (published : List Install) (token : Option History) (others first : ℕ) (xs : List Arrival) (ls ms : List LaneState) (es : List EndState) → All (IsFresh board published) ls → AreDone ls first others xs ms
    → AreEnded token ms es → entered_by es ≤ sum_by ones (hands first (length ls) others xs)
lanes-most board published token others first xs [] [] [] fresh done end = omega arith
lanes-most board published token others first xs [] [] (e ∷ es) fresh done end = absurd end
lanes-most board published token others first xs [] (m ∷ ms) es fresh done end = absurd done
lanes-most board published token others first xs (l ∷ ls) [] es fresh done end = absurd done
lanes-most board published token others first xs (l ∷ ls) (m ∷ ms) [] fresh done end = absurd end
lanes-most board published token others first xs (l ∷ ls) (m ∷ ms) (e ∷ es) fresh done end =
    let le = lanes-most board published token others (suc first) xs ls ms es (All-tail (IsFresh board published) l ls fresh) done.1 end.1 in
    let zero : l.entered ≡ 0 = ap (λ (t : LaneState). t.entered) (All-head (IsFresh board published) l ls fresh).1 in
    let sum = sum_by-cons (λ (t : EndState). t.entered) e es in
    let counts = sum_by-cons ones (every first others xs) (hands (suc first) (length ls) others xs) in
    omega (arith, le, sum, counts, done.0.entered, end.0.entered, zero, length-clocked 0 (every first others xs), ones-length (every first others xs))

-- where frames are left, a lane was refused 1,000 times
lanes-short : (board : Book) (published : List Install) (token : Option History) (others first : ℕ) (xs : List Arrival) (ls ms : List LaneState) (es : List EndState) → All (IsFresh board published) ls → AreDone ls first others xs ms
    → AreEnded token ms es → entered_by es < sum_by ones (hands first (length ls) others xs) → 1000 ≤ refused_by ms
lanes-short board published token others first xs [] [] [] fresh done end short = absurd (omega arith)
lanes-short board published token others first xs [] [] (e ∷ es) fresh done end short = absurd end
lanes-short board published token others first xs [] (m ∷ ms) es fresh done end short = absurd done
lanes-short board published token others first xs (l ∷ ls) [] es fresh done end short = absurd done
lanes-short board published token others first xs (l ∷ ls) (m ∷ ms) [] fresh done end short = absurd end
lanes-short board published token others first xs (l ∷ ls) (m ∷ ms) (e ∷ es) fresh done end short =
    let zero : l.entered ≡ 0 = ap (λ (t : LaneState). t.entered) (All-head (IsFresh board published) l ls fresh).1 in
    let sum = sum_by-cons (λ (t : EndState). t.entered) e es in
    let counts = sum_by-cons ones (every first others xs) (hands (suc first) (length ls) others xs) in
    let long = length-clocked 0 (every first others xs) in
    let one = ones-length (every first others xs) in
    let refusals = sum_by-cons (λ (t : LaneState). t.refused) m ms in
    elim (cases_lt m.entered (l.entered + length (turns_of first others xs))) [
      | inl less ↦ (let few = done.0.short less in omega (arith, few, refusals))
      | inr all ↦ (
          let later = lanes-short board published token others (suc first) xs ls ms es (All-tail (IsFresh board published) l ls fresh) done.1 end.1 (omega (arith, short, sum, counts, end.0.entered, zero, long, one, all, done.0.entered)) in
          omega (arith, later, refusals)
          )
    ]

lanes-whole : (old new : InstallerState) (nexts : List Install) (token : Option History) (others first : ℕ) (xs : List Arrival) (ls ms : List LaneState) (es : List EndState) → HasInstalled old nexts new token
    → All (IsFresh old.board old.published) ls → AreDone ls first others xs ms → AreEnded token ms es → entered_by es ≡ sum_by ones (hands first (length ls) others xs)
    → HaveAnswered old.board (old.published ++ nexts) (hands first (length ls) others xs) es
lanes-whole old new nexts token others first xs [] [] [] installed fresh done end whole = tt
lanes-whole old new nexts token others first xs [] [] (e ∷ es) installed fresh done end whole = absurd end
lanes-whole old new nexts token others first xs [] (m ∷ ms) es installed fresh done end whole = absurd done
lanes-whole old new nexts token others first xs (l ∷ ls) [] es installed fresh done end whole = absurd done
lanes-whole old new nexts token others first xs (l ∷ ls) (m ∷ ms) [] installed fresh done end whole = absurd end
lanes-whole old new nexts token others first xs (l ∷ ls) (m ∷ ms) (e ∷ es) installed fresh done end whole =
    let here = All-head (IsFresh old.board old.published) l ls fresh in
    let there = All-tail (IsFresh old.board old.published) l ls fresh in
    let le = lanes-most old.board old.published token others (suc first) xs ls ms es there done.1 end.1 in
    let zero : l.entered ≡ 0 = ap (λ (t : LaneState). t.entered) here.1 in
    let sum = sum_by-cons (λ (t : EndState). t.entered) e es in
    let counts = sum_by-cons ones (every first others xs) (hands (suc first) (length ls) others xs) in
    let long = length-clocked 0 (every first others xs) in
    let one = ones-length (every first others xs) in (
      lane-whole old new nexts token (every first others xs) l m e installed here done.0 end.0 (omega (arith, le, sum, counts, done.0.entered, end.0.entered, zero, long, one, whole)),
      lanes-whole old new nexts token others (suc first) xs ls ms es installed there done.1 end.1 (omega (arith, le, sum, counts, done.0.entered, end.0.entered, zero, long, one, whole)),
    )

total : (count : ℕ) (xs : List Arrival) → 0 < count → sum_by ones (dealt count xs) ≡ length xs
total count xs some = sum-dealt (λ (x : Arrival). 1) count xs some ∙ ones-length xs

-- where the ends have as many answers as there are frames, each lane has answered its share
pub all-whole : (old new : InstallerState) (nexts : List Install) (token : Option History) (xs : List Arrival) (ls ms : List LaneState) (es : List EndState) (n : ℕ) → HasInstalled old nexts new token → 0 < length ls
    → All (IsFresh old.board old.published) ls → AreDone ls 0 (length ls - 1) xs ms → AreEnded token ms es → n ≡ entered_by es % 2 ^ 64 → n ≡ length xs → length xs < 2 ^ 64
    → HaveAnswered old.board (old.published ++ nexts) (dealt (length ls) xs) es
all-whole old new nexts token xs ls ms es n installed some fresh done end is same small =
    let all = total (length ls) xs some in
    let most = lanes-most old.board old.published token (length ls - 1) 0 xs ls ms es fresh done end in
    lanes-whole old new nexts token (length ls - 1) 0 xs ls ms es installed fresh done end (omega (arith, all, most, is, same, small))

-- where they have another number of answers, a lane was refused 1,000 times
pub some-short : (board : Book) (published : List Install) (token : Option History) (xs : List Arrival) (ls ms : List LaneState) (es : List EndState) (n : ℕ) → 0 < length ls → All (IsFresh board published) ls
    → AreDone ls 0 (length ls - 1) xs ms → AreEnded token ms es → n ≡ entered_by es % 2 ^ 64 → (n ≡ length xs → ⊥) → length xs < 2 ^ 64 → 1000 ≤ refused_by ms
some-short board published token xs ls ms es n some fresh done end is other small =
    let all = total (length ls) xs some in
    let most = lanes-most board published token (length ls - 1) 0 xs ls ms es fresh done end in
    elim (cases_lt (entered_by es) (length xs)) [
      | inl less ↦ lanes-short board published token (length ls - 1) 0 xs ls ms es fresh done end (omega (arith, all, less))
      | inr more ↦ absurd (other (omega (arith, all, most, is, more, small)))
    ]

pub ended-length : (token : Option History) (ls : List LaneState) (es : List EndState) → AreEnded token ls es → length es ≡ length ls
ended-length token [] [] end = refl
ended-length token [] (e ∷ es) end = absurd end
ended-length token (l ∷ ls) [] end = absurd end
ended-length token (l ∷ ls) (e ∷ es) end = omega (arith, ended-length token ls es end.1)

-- ---- before and after the threads

-- each lane has room for its share
pub may-answer : (board : Book) (published : List Install) (capture : List ℕ) (frames : List Placed) (lanes : List LaneState) → All (IsFresh board published) lanes → All (λ (l : LaneState). length (every 0 (length lanes - 1) frames) ≤ l.spare) lanes
    → (i : ℕ) (d : LaneState) → i < length lanes → MayAnswer (dealt_frames i (length lanes - 1) capture frames) (get_or lanes i d)
may-answer board published capture frames lanes fresh room i d lt =
    let xs = arrivals_of capture frames in
    let others : ℕ = length lanes - 1 in
    let long = length-clocked 0 (every i others xs) in
    let most = most-first (length lanes) i xs lt in
    let same = length-every 0 others xs frames (length-map frames (arrival_of capture)) in
    let never = ap (λ (t : LaneState). t.refused) (fresh i d lt).1 in
    (omega (arith, long, most, same, room i d lt), omega (arith, never))

pub done-length : (others first : ℕ) (xs : List Arrival) (ls ms : List LaneState) → AreDone ls first others xs ms → length ms ≡ length ls
done-length others first xs [] [] done = refl
done-length others first xs [] (m ∷ ms) done = absurd done
done-length others first xs (l ∷ ls) [] done = absurd done
done-length others first xs (l ∷ ls) (m ∷ ms) done = omega (arith, done-length others (suc first) xs ls ms done.1)

-- what was lent whole comes back whole
pub overwritten-all : {A : Type 0} (items new : List A) → length new ≡ length items → overwritten items new ≡ new
overwritten-all items new same =
    ap (λ xs. take (length items) (new ++ xs)) (drop_all (length new) items (omega (arith, same)))
    ∙ ap (take (length items)) (append-nil new)
    ∙ take_all (length items) new (omega (arith, same))

told_here : (token : Option History) (a b : Book) → a ≡ b → IfSome token (λ t. t.board ≡ b) → IfSome token (λ t. t.board ≡ a)
told_here token a b e h = subst (λ (c : Book). IfSome token (λ t. t.board ≡ c)) (sym e) h

-- lanes that have done may learn the token
pub may-end : (board : Book) (published : List Install) (token : Option History) (others first : ℕ) (xs : List Arrival) (ls ms : List LaneState) → IfSome token (λ t. t.board ≡ board) → All (IsFresh board published) ls → AreDone ls first others xs ms
    → All (MayEnd token) ms
may-end board published token others first xs [] [] told fresh done = All-nil (MayEnd token)
may-end board published token others first xs [] (m ∷ ms) told fresh done = absurd done
may-end board published token others first xs (l ∷ ls) [] told fresh done = absurd done
may-end board published token others first xs (l ∷ ls) (m ∷ ms) told fresh done =
    let same : m.board ≡ board = done.0.board ∙ ap (λ (t : LaneState). t.board) (All-head (IsFresh board published) l ls fresh).1 in
    All-cons (MayEnd token) m ms (told_here token m.board board same told, done.0.seldom)
    (may-end board published token others (suc first) xs ls ms told (All-tail (IsFresh board published) l ls fresh) done.1)

-- the token is of the board
pub told-board : (old new : InstallerState) (nexts : List Install) (token : Option History) → HasInstalled old nexts new token → IfSome token (λ t. t.board ≡ old.board)
told-board old new nexts None h = tt
told-board old new nexts (Some t) h = ap (λ (s : History). s.board) h.told ∙ ap (λ (s : InstallerState). s.board) h.published
