-- Lanes and the frames that they are dealt.
use Rattle.std.proofs.Common.{◌≡◌, ℕ, ◌+◌, ◌-◌, ◌*◌, ◌^◌, ◌<◌, ◌≤◌, max, zero, suc, List, [], ◌∷◌, ◌++◌, length, drop, get_or, refl, sym, ap, subst, ◌∙◌, arith, append_assoc}
use Rattle.std.proofs.lemmas.List.{append-nil, length-append, drop_more, drop_all}
use Rattle.dealt_items.specs.Dealing.{every}
use Rattle.filter_core.specs.Arrivals.{arrival_of, arrivals_of}
use Rattle.filter_core.specs.Lanes.{clocked}
use Rattle.filter_core.specs.Replay.{Arrival}
use Rattle.pcap_files.specs.Capture.{frame_of}
use Rattle.pcap_files.specs.declared.kinds.Placed.{Placed}
use Rattle.policy_state.specs.declared.basis.Answer.{Answer}
use Rattle.program_swap.specs.Driving.{turns_of, AnswersAll, MayAnswer, HasDone, AreDone}
use Rattle.program_swap.specs.Lanes.{HasAnswered, with_refusals}
use Rattle.program_swap.specs.Order.{LaneState}

pub answers_snoc : (l : LaneState) (xs : List Arrival) (m : LaneState) (x : Arrival) (n : LaneState) (a : Answer) → AnswersAll l xs m → HasAnswered m x.frame x.second n a → AnswersAll l (xs ++ x ∷ []) n
answers_snoc l [] m x n a h s = (n, a, subst (λ (k : LaneState). HasAnswered k x.frame x.second n a) h s, refl)
answers_snoc l (y ∷ xs) m x n a h s = (h.0, h.1, h.2, answers_snoc h.0 xs m x n a h.3 s)

-- the lane has answered some of all frames in order, and these are left
pub record GoesOn (all left : List Arrival) (l m : LaneState) : Type 0 where
  pub done : List Arrival
  pub answers : AnswersAll l done m
  pub whole : done ++ left ≡ all
  pub board : m.board ≡ l.board
  pub spare : m.spare + length done ≡ l.spare
  pub entered : m.entered ≡ l.entered + length done
  pub least : l.refused ≤ m.refused
  pub refused : m.refused ≤ l.refused + 1000 * length done

pub goes-none : (all : List Arrival) (l : LaneState) → GoesOn all all l l
goes-none all l = record { done = []; answers = refl; whole = refl; board = refl; spare = omega arith; entered = omega arith; least = omega arith; refused = omega arith }

-- there is room for one frame more
pub goes-may : (all left : List Arrival) (x : Arrival) (l m : LaneState) → GoesOn all (x ∷ left) l m → MayAnswer all l → l.spare < 2 ^ 32 → (1 ≤ m.spare) × (m.refused < 2 ^ 63)
goes-may all left x l m on may small =
    let long = ap length on.whole in
    let sum = length-append on.done (x ∷ left) in
    (omega (arith, long, sum, may.0, on.spare), omega (arith, long, sum, may.0, may.1, small, on.refused))

pub goes-more : (all left : List Arrival) (x : Arrival) (l m n : LaneState) (a : Answer) → GoesOn all (x ∷ left) l m → HasAnswered m x.frame x.second n a → GoesOn all left l n
goes-more all left x l m n a on t =
    let one = length-append on.done (x ∷ []) in
    record {
      done = on.done ++ x ∷ [];
      answers = answers_snoc l on.done m x n a on.answers t;
      whole = append_assoc on.done (x ∷ []) left ∙ on.whole;
      board = t.board ∙ on.board;
      spare = omega (arith, one, t.spare, on.spare);
      entered = omega (arith, one, t.entered, on.entered);
      least = omega (arith, t.refused.0, on.least);
      refused = omega (arith, one, t.refused.1, on.refused);
    }

pub goes-all : (all : List Arrival) (l m : LaneState) → GoesOn all [] l m → MayAnswer all l → l.spare < 2 ^ 32 → HasDone l all m
goes-all all l m on may small =
    let same : on.done ≡ all = sym (append-nil on.done) ∙ on.whole in
    let long = ap length same in
    record {
      board = on.board;
      entered = omega (arith, long, on.entered);
      refused = on.least;
      seldom = omega (arith, long, on.refused, may.0, may.1, small);
      whole = λ e. subst (λ (xs : List Arrival). AnswersAll l xs m) same on.answers;
      short = λ e. absurd (omega (arith, long, on.entered));
    }

pub goes-stop : (all left : List Arrival) (x : Arrival) (l m n : LaneState) → GoesOn all (x ∷ left) l m → MayAnswer all l → l.spare < 2 ^ 32 → n ≡ with_refusals (m.refused + 1000) m → HasDone l all n
goes-stop all left x l m n on may small is =
    let long = ap length on.whole in
    let sum = length-append on.done (x ∷ left) in
    let board = ap (λ (k : LaneState). k.board) is in
    let entered : n.entered ≡ m.entered = ap (λ (k : LaneState). k.entered) is in
    let refused : n.refused ≡ m.refused + 1000 = ap (λ (k : LaneState). k.refused) is in
    record {
      board = board ∙ on.board;
      entered = omega (arith, long, sum, entered, on.entered);
      refused = omega (arith, refused, on.least);
      seldom = omega (arith, long, sum, refused, on.refused, may.0, may.1, small);
      whole = λ e. absurd (omega (arith, long, sum, entered, on.entered));
      short = λ e. omega (arith, refused, on.least);
    }

-- ---- frames that are left

-- the frame of a record, at the greatest second so far
abbrev pub at_clock : ℕ → List ℕ → Placed → Arrival
at_clock second capture f = record { second = second; frame = frame_of capture f }

-- what a lane is dealt of the records from this place on
abbrev pub left_from : ℕ → ℕ → ℕ → List ℕ → List Placed → ℕ → List Arrival
left_from clock wait others capture frames i = clocked clock (every wait others (arrivals_of capture (drop i frames)))

frames-front : (capture : List ℕ) (frames : List Placed) (i : ℕ) (d : Placed) → i < length frames → arrivals_of capture (drop i frames) ≡ arrival_of capture (get_or frames i d) ∷ arrivals_of capture (drop (i + 1) frames)
frames-front capture frames i d lt = ap (arrivals_of capture) (drop_more frames i d lt)

-- a frame of this lane
pub next-turn : (clock wait others : ℕ) (capture : List ℕ) (frames : List Placed) (i : ℕ) (d : Placed) → i < length frames → wait ≤ 0
    → let f = get_or frames i d in left_from clock wait others capture frames i ≡ at_clock (max clock f.stamp.sec) capture f ∷ left_from (max clock f.stamp.sec) others others capture frames (i + 1)
next-turn clock (suc wait) others capture frames i d lt none = absurd (omega arith)
next-turn clock zero others capture frames i d lt none = ap (λ (xs : List Arrival). clocked clock (every 0 others xs)) (frames-front capture frames i d lt)

-- a frame of another lane
every-none : (wait others : ℕ) → every {A = Arrival} wait others [] ≡ []
every-none zero others = refl
every-none (suc wait) others = refl

pub none-left : (clock wait others : ℕ) (capture : List ℕ) (frames : List Placed) (i : ℕ) → length frames ≤ i → left_from clock wait others capture frames i ≡ []
none-left clock wait others capture frames i le =
    ap (λ (fs : List Placed). clocked clock (every wait others (arrivals_of capture fs))) (drop_all i frames le)
    ∙ ap (clocked clock) (every-none wait others)

pub past-turn : (clock wait others : ℕ) (capture : List ℕ) (frames : List Placed) (i : ℕ) → i < length frames → 0 < wait → left_from clock wait others capture frames i ≡ left_from clock (wait - 1) others capture frames (i + 1)
past-turn clock zero others capture frames i lt some = absurd (omega arith)
past-turn clock (suc wait) others capture frames i lt some =
    let same : wait ≡ suc wait - 1 = omega arith in
    ap (λ (xs : List Arrival). clocked clock (every (suc wait) others xs)) (frames-front capture frames i (record { stamp = record { sec = 0; fraction = 0; original = 0 }; at = 0; len = 0 }) lt)
    ∙ ap (λ (w : ℕ). left_from clock w others capture frames (i + 1)) same

-- the frame was answered at the clock's second
pub goes-answer : (all : List Arrival) (l m n : LaneState) (a : Answer) (clock next wait others : ℕ) (capture : List ℕ) (frames : List Placed) (i : ℕ) (d : Placed) (bytes : List ℕ) → i < length frames → wait ≤ 0
    → next ≡ max clock (get_or frames i d).stamp.sec → bytes ≡ frame_of capture (get_or frames i d) → GoesOn all (left_from clock wait others capture frames i) l m → HasAnswered m bytes next n a
    → GoesOn all (left_from next others others capture frames (i + 1)) l n
goes-answer all l m n a clock next wait others capture frames i d bytes lt none e same on t =
    let f = get_or frames i d in
    let here = subst (λ (xs : List Arrival). GoesOn all xs l m) (next-turn clock wait others capture frames i d lt none) on in
    let there = subst (λ (b : List ℕ). HasAnswered m b next n a) same t in
    let then = subst (λ (k : ℕ). HasAnswered m (frame_of capture f) k n a) e there in
    subst (λ (k : ℕ). GoesOn all (left_from k others others capture frames (i + 1)) l n) (sym e)
    (goes-more all (left_from (max clock f.stamp.sec) others others capture frames (i + 1)) (at_clock (max clock f.stamp.sec) capture f) l m n a here then)

-- what each lane did, by its place
pub are_done : (arrivals : List Arrival) (others first : ℕ) (ls ms : List LaneState) → length ms ≡ length ls
    → ((i hand : ℕ) (d : LaneState) → hand ≡ first + i → i < length ls → HasDone (get_or ls i d) (turns_of hand others arrivals) (get_or ms i d))
    → AreDone ls first others arrivals ms
are_done arrivals others first [] [] long each = tt
are_done arrivals others first [] (m ∷ ms) long each = absurd (omega arith)
are_done arrivals others first (l ∷ ls) [] long each = absurd (omega arith)
are_done arrivals others first (l ∷ ls) (m ∷ ms) long each =
    (each 0 first l (omega arith) (omega arith), are_done arrivals others (suc first) ls ms (omega arith) (λ i hand d e lt. each (suc i) hand d (omega arith) (omega arith)))
