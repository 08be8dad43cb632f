-- A capture that is read a record at a time.
use Rattle.std.proofs.Common.{◌≡◌, ◌≢◌, ◌==◌, not, ℕ, zero, suc, ◌+◌, ◌-◌, ◌<◌, ◌≤◌, Bool, true, false, cond, List, [], ◌∷◌, ◌++◌, length, take, drop, map, Option, Some, None, Result, Ok, Err, refl, sym, ap, subst, ◌∙◌, append_assoc, append-nil, length-append, ltb-false, inl, inr, arith}
use Rattle.std.specs.Prelude.{nat_lt, ◌&&◌, IfSome}
use Rattle.std.specs.Io.KnownBytes.{Consumes, IsAtEnd}
use Rattle.std.proofs.KnownBytes.{Consumes-trans}
use Rattle.std.proofs.Math.Seq.{drop-append_seam, take-append_seam}
use Rattle.std.proofs.lemmas.Bool.{cases_lt}
use Rattle.std.proofs.lemmas.Bool.Decides.{nat_tests}
use Rattle.std.proofs.lemmas.List.{drop-drop, drop-append-le}
use Rattle.pcap_files.specs.declared.kinds.Kind.{Kind}
use Rattle.pcap_files.specs.declared.kinds.Stamp.{Stamp}
use Rattle.pcap_files.specs.declared.kinds.Placed.{Placed}
use Rattle.pcap_files.specs.declared.fault.PcapError.{PcapError}
use Rattle.pcap_files.specs.declared.fault.PcapError.TheVariants.{Version, Cut, TooLong, Length, Read, OutOfMemory}
use Rattle.pcap_files.specs.Capture.{number_at, placed_at, record_at, records_from, captured, capture, kind_by, kind_of, of_link, of_kind, head_of, promised_at}
use Rattle.pcap_files.specs.Stream.{Reader, Handed, Told, first_handed, told_end, handed_of, told, refused_file, handed_from, told_from, rest_of, IsRecord, IsTaken, TakesRecord, BothTold, Starts, Gives, next_answer_by, next_answer, TakesAtMost}
use Rattle.pcap_files.specs.Tiling.{AreConsecutive}
use Rattle.apf_base.specs.Limits.{frame_limit}
use Rattle.pcap_files.proofs.Heads.{head-long}
use Rattle.pcap_files.proofs.Walk.{whole, one_more, stops}
use Rattle.pcap_files.proofs.Adding.{made_of, not_short, record-append, number-append}

-- ---- a record by its header and its frame

abbrev pub with_frame : ℕ → List ℕ → Result Placed PcapError → Result Placed PcapError
with_frame at bytes (Err fault) = Err fault
with_frame at bytes (Ok placed) = cond (nat_lt (length bytes) (16 + placed.len)) (Err (Cut at)) (Ok placed)

by_tests : (a b c : Bool) (at : ℕ) (bytes : List ℕ) (f g h : PcapError) (x : Placed)
    → cond a (Err f) (cond b (Err g) (cond c (Err h) (cond (nat_lt (length bytes) (16 + x.len)) (Err (Cut at)) (Ok x))))
    ≡ with_frame at bytes (cond a (Err f) (cond b (Err g) (cond c (Err h) (Ok x))))
by_tests true b c at bytes f g h x = refl
by_tests false true c at bytes f g h x = refl
by_tests false false true at bytes f g h x = refl
by_tests false false false at bytes f g h x = refl

pub record-by_promise : (big : Bool) (at : ℕ) (bytes : List ℕ) → record_at big at bytes ≡ with_frame at bytes (promised_at big at bytes)
record-by_promise big at bytes =
    let len = number_at big 4 8 bytes in
    by_tests (nat_lt (length bytes) 16) (nat_lt frame_limit len) (nat_lt 4294967295 (at + 16 + len)) at bytes (Cut at) (TooLong at len) Length (placed_at big at len bytes)

-- by the numbers that stand in the header
abbrev promise_by : Bool → ℕ → ℕ → ℕ → ℕ → ℕ → Result Placed PcapError
promise_by short at len sec fraction original =
    cond short (Err (Cut at)) (cond (nat_lt frame_limit len) (Err (TooLong at len)) (cond (nat_lt 4294967295 (at + 16 + len)) (Err Length) (Ok (made_of at len sec fraction original))))

same_promise : (a b : Bool) (at l m s t f g o p : ℕ) → a ≡ b → l ≡ m → s ≡ t → f ≡ g → o ≡ p → promise_by a at l s f o ≡ promise_by b at m t g p
same_promise a b at l m s t f g o p ab lm st fg op =
    ap (λ x. promise_by x at l s f o) ab ∙ ap (λ x. promise_by b at x s f o) lm ∙ ap (λ x. promise_by b at m x f o) st
    ∙ ap (λ x. promise_by b at m t x o) fg ∙ ap (λ x. promise_by b at m t g x) op

-- bytes behind a whole header don't change what it promises
pub promise-append : (big : Bool) (at : ℕ) (xs ys : List ℕ) → 16 ≤ length xs → promised_at big at (xs ++ ys) ≡ promised_at big at xs
promise-append big at xs ys long =
    let more : length (xs ++ ys) ≡ length xs + length ys = length-append xs ys in
    same_promise (nat_lt (length (xs ++ ys)) 16) (nat_lt (length xs) 16) at _ _ _ _ _ _ _ _
    (not_short (length (xs ++ ys)) 16 (omega arith) ∙ sym (not_short (length xs) 16 long))
    (number-append big 4 8 xs ys (omega arith)) (number-append big 4 0 xs ys (omega arith)) (number-append big 4 4 xs ys (omega arith)) (number-append big 4 12 xs ys (omega arith))

-- what a promise tells
pub record IsPromise (big : Bool) (at : ℕ) (bytes : List ℕ) (placed : Placed) : Type 0 where
  pub place : placed.at ≡ at
  pub head : 16 ≤ length bytes
  pub short : placed.len ≤ frame_limit
  pub inside : at + 16 + placed.len ≤ 4294967295

accepted : (a b c : Bool) (e f g : PcapError) (x y : Placed)
    → cond a (Err e) (cond b (Err f) (cond c (Err g) (Ok x))) ≡ Ok y → (a ≡ false) × (b ≡ false) × (c ≡ false) × (x ≡ y)
accepted true b c e f g x y is = absurd cc
accepted false true c e f g x y is = absurd cc
accepted false false true e f g x y is = absurd cc
accepted false false false e f g x y is = (refl, refl, refl, cc)

pub promise : (big : Bool) (at : ℕ) (bytes : List ℕ) (placed : Placed) → promised_at big at bytes ≡ Ok placed → IsPromise big at bytes placed
promise big at bytes placed e =
    let len = number_at big 4 8 bytes in
    let tests = accepted (nat_lt (length bytes) 16) (nat_lt frame_limit len) (nat_lt 4294967295 (at + 16 + len)) _ _ _ _ _ e in
    let same : len ≡ placed.len = ap (λ (p : Placed). p.len) tests.3 in
    let head : 16 ≤ length bytes = ltb-false _ _ tests.0 in
    let short : len ≤ frame_limit = ltb-false _ _ tests.1 in
    let inside : at + 16 + len ≤ 4294967295 = ltb-false _ _ tests.2 in
    record { place = sym (ap (λ (p : Placed). p.at) tests.3); head = head; short = omega arith; inside = omega arith }

is_short : (n k : ℕ) → n < k → nat_lt n k ≡ true
is_short n k lt = grind (arith, nat_tests)

-- what is wrong with a header is wrong with the record
pub bad-record : (big : Bool) (at : ℕ) (bytes head rest : List ℕ) (fault : PcapError) → bytes ≡ head ++ rest → (length head < 16 → rest ≡ []) → promised_at big at head ≡ Err fault → record_at big at bytes ≡ Err fault
bad-record big at bytes head rest fault e end bad =
    let same : promised_at big at bytes ≡ promised_at big at head =
    elim (cases_lt (length head) 16) [
      | inl short ↦ ap (promised_at big at) (e ∙ ap (λ l. head ++ l) (end short) ∙ append-nil head)
      | inr long ↦ ap (promised_at big at) e ∙ promise-append big at head rest long
    ] in
    record-by_promise big at bytes ∙ ap (with_frame at bytes) (same ∙ bad)

module _ (big : Bool) (at : ℕ) (head : List ℕ) (placed : Placed) (is : promised_at big at head ≡ Ok placed) where
  -- a promise and the frame behind it
  pub whole-record : (frame : List ℕ) → length frame ≡ placed.len → record_at big at (head ++ frame) ≡ Ok placed
  whole-record frame e =
      let head_long = (promise big at head placed is).head in
      let more : length (head ++ frame) ≡ length head + length frame = length-append head frame in
      record-by_promise big at (head ++ frame)
      ∙ ap (with_frame at (head ++ frame)) (promise-append big at head frame head_long ∙ is)
      ∙ ap (λ b. cond b (Err (Cut at)) (Ok placed)) (not_short (length (head ++ frame)) (16 + placed.len) (omega arith))

  -- a promise whose frame is cut
  pub cut-record : (frame : List ℕ) → length head ≡ 16 → length frame < placed.len → record_at big at (head ++ frame) ≡ Err (Cut at)
  cut-record frame size lt =
      let head_long = (promise big at head placed is).head in
      let more : length (head ++ frame) ≡ length head + length frame = length-append head frame in
      record-by_promise big at (head ++ frame)
      ∙ ap (with_frame at (head ++ frame)) (promise-append big at head frame head_long ∙ is)
      ∙ ap (λ b. cond b (Err (Cut at)) (Ok placed)) (is_short (length (head ++ frame)) (16 + placed.len) (omega arith))

-- ---- records as they are handed out

-- what is found, handed out
abbrev as_told : (Placed → Handed) → List Placed × Option PcapError → Told
as_told f found = record { list = map f found.0; end = found.1 }

-- equal for each record from an offset on, equal for records that stand behind it
map_along : (f g : Placed → Handed) (start : ℕ) → ((placed : Placed) → start ≤ placed.at → f placed ≡ g placed)
    → (at : ℕ) (list : List Placed) → start ≤ at → AreConsecutive at list → map f list ≡ map g list
map_along f g start same at [] le is = refl
map_along f g start same at (placed ∷ list) le is =
    let here : placed.at ≡ at = is.0 in
    ap (λ h. h ∷ map f list) (same placed (omega arith)) ∙ ap (λ l. g placed ∷ l) (map_along f g start same (at + (16 + placed.len)) list (omega arith) is.1)

found_consecutive : (big : Bool) (at byte : ℕ) (bytes : List ℕ)
    → ((skip : ℕ) → skip ≤ length bytes → AreConsecutive (at + 1 + skip) (records_from big skip (at + 1) bytes).0)
    → (r : Result Placed PcapError) → record_at big at (byte ∷ bytes) ≡ r
    → AreConsecutive at (elim r as (λ _. List Placed × Option PcapError) [ Err fault ↦ ([], Some fault) | Ok placed ↦ (let more = records_from big (15 + placed.len) (at + 1) bytes in (placed ∷ more.0, more.1)) ]).0
found_consecutive big at byte bytes rest (Err fault) e = tt
found_consecutive big at byte bytes rest (Ok placed) e =
    let fits = whole big at (byte ∷ bytes) placed e in
    let place : placed.at ≡ at = ap (λ p. p.at) (sym fits.is) in
    let next : at + 1 + (15 + placed.len) ≡ at + (16 + placed.len) = omega arith in
    (place, subst (λ n. AreConsecutive n (records_from big (15 + placed.len) (at + 1) bytes).0) next (rest (15 + placed.len) (omega (arith, fits.frame))))

consecutive : (big : Bool) (skip at : ℕ) (bytes : List ℕ) → skip ≤ length bytes → AreConsecutive (at + skip) (records_from big skip at bytes).0
consecutive big skip at [] le = tt
consecutive big (suc skip) at (byte ∷ bytes) le =
    let next : at + 1 + skip ≡ at + suc skip = omega arith in
    subst (λ n. AreConsecutive n (records_from big skip (at + 1) bytes).0) next (consecutive big skip (at + 1) bytes (omega arith))
consecutive big zero at (byte ∷ bytes) le =
    let same : at ≡ at + zero = omega arith in
    subst (λ n. AreConsecutive n (records_from big zero at (byte ∷ bytes)).0) same
    (found_consecutive big at byte bytes (λ skip less. consecutive big skip (at + 1) bytes less) (record_at big at (byte ∷ bytes)) refl)

all_consecutive : (big : Bool) (at : ℕ) (bytes : List ℕ) → AreConsecutive at (records_from big 0 at bytes).0
all_consecutive big at bytes = let same : at + 0 ≡ at = omega arith in subst (λ n. AreConsecutive n (records_from big 0 at bytes).0) same (consecutive big 0 at bytes (omega arith))

-- a frame doesn't depend on how many bytes before it are left out
moved : (start more at len : ℕ) (left : List ℕ) → start + more ≤ at → take len (drop (at - start + 16) left) ≡ take len (drop (at - (start + more) + 16) (drop more left))
moved start more at len left le =
    let place : more + (at - (start + more) + 16) ≡ at - start + 16 = omega arith in
    ap (take len) (ap (λ n. drop n left) (sym place) ∙ sym (drop-drop (at - (start + more) + 16) more left))

moved_all : (start more : ℕ) (left : List ℕ) (placed : Placed) → start + more ≤ placed.at → handed_from start left placed ≡ handed_from (start + more) (drop more left) placed
moved_all start more left placed le = ap (λ frame. record { stamp = placed.stamp; at = placed.at; frame = frame }) (moved start more placed.at placed.len left le)

pub seam_at : (n : ℕ) (bytes front rest : List ℕ) → bytes ≡ front ++ rest → length front ≡ n → drop n bytes ≡ rest
seam_at n bytes front rest e size = ap (drop n) e ∙ ap (λ (k : ℕ). drop k (front ++ rest)) (sym size) ∙ drop-append_seam front rest

-- THE LAW OF ONE RECORD: what a reader gives of bytes that begin with a record is that record, and then what it gives of the rest.
pub peels : (big : Bool) (at : ℕ) (bytes front rest : List ℕ) (stamp : Stamp) (frame : List ℕ) → bytes ≡ front ++ rest → IsRecord big at front stamp frame
    → told_from big at bytes ≡ first_handed (record { stamp = stamp; at = at; frame = frame }) (told_from big (at + (16 + length frame)) rest)
peels big at bytes front rest stamp frame e is =
    let n = 16 + length frame in
    let placed : Placed = record { stamp = stamp; at = at; len = length frame } in
    let here : record_at big at bytes ≡ Ok placed = ap (record_at big at) e ∙ record-append big at front rest placed is.is in
    let found = records_from big 0 (at + n) (drop n bytes) in
    let behind : drop n bytes ≡ rest = seam_at n bytes front rest e is.size in
    let split : drop 16 bytes ≡ frame ++ rest = ap (drop 16) e ∙ drop-append-le 16 front rest (omega (arith, is.size)) ∙ ap (λ l. l ++ rest) is.behind in
    let zero_more : at - at + 16 ≡ 16 = omega arith in
    let shown : take (length frame) (drop (at - at + 16) bytes) ≡ frame = ap (λ k. take (length frame) (drop k bytes)) zero_more ∙ ap (take (length frame)) split ∙ take-append_seam frame rest in
    ap (as_told (handed_from at bytes)) (one_more big at bytes placed here)
    ∙ ap (λ l. record { list = handed_from at bytes placed ∷ l; end = found.1 }) (map_along (handed_from at bytes) (handed_from (at + n) (drop n bytes)) (at + n) (moved_all at n bytes) (at + n) found.0 (omega arith) (all_consecutive big (at + n) (drop n bytes)))
    ∙ ap (λ f. first_handed (record { stamp = stamp; at = at; frame = f }) (told_from big (at + n) (drop n bytes))) shown
    ∙ ap (λ l. first_handed (record { stamp = stamp; at = at; frame = frame }) (told_from big (at + n) l)) behind

-- THE LAW OF THE START: behind an accepted header the reader gives what the file tells.
based : (bytes : List ℕ) (placed : Placed) → 24 ≤ placed.at → handed_of bytes placed ≡ handed_from 24 (drop 24 bytes) placed
based bytes placed le =
    let place : 24 + (placed.at - 24 + 16) ≡ placed.at + 16 = omega arith in
    ap (λ frame. record { stamp = placed.stamp; at = placed.at; frame = frame })
    (ap (take placed.len) (ap (λ n. drop n bytes) (sym place) ∙ sym (drop-drop (placed.at - 24 + 16) 24 bytes)))

pub starts : (kind : Kind) (bytes front rest : List ℕ) → head_of bytes ≡ Ok kind → bytes ≡ front ++ rest → length front ≡ 24 → told bytes ≡ told_from kind.big 24 rest
unfolding told capture
starts kind bytes front rest head e size =
    let found = records_from kind.big 0 24 (drop 24 bytes) in
    ap (λ (r : Result Kind PcapError). record { list = map (handed_of bytes) (captured r bytes).list; end = (captured r bytes).end }) head
    ∙ ap (λ l. record { list = l; end = found.1 }) (map_along (handed_of bytes) (handed_from 24 (drop 24 bytes)) 24 (based bytes) 24 found.0 (omega arith) (all_consecutive kind.big 24 (drop 24 bytes)))
    ∙ ap (told_from kind.big 24) (seam_at 24 bytes front rest e size)

pub kind_is : (kind : Kind) (bytes : List ℕ) → head_of bytes ≡ Ok kind → (capture bytes).kind ≡ Some kind
unfolding capture
kind_is kind bytes head = ap (λ (r : Result Kind PcapError). (captured r bytes).kind) head

pub refusal_is : (fault : PcapError) (bytes : List ℕ) → head_of bytes ≡ Err fault → capture bytes ≡ refused_file fault
unfolding capture
refusal_is fault bytes head = ap (λ (r : Result Kind PcapError). captured r bytes) head

-- ---- what a call took

-- the header promises a record or is wrong, and neither is want of memory
no_want : (a b c : Bool) (at len : ℕ) (x : Placed) → cond a (Err (Cut at)) (cond b (Err (TooLong at len)) (cond c (Err Length) (Ok x))) ≡ Err OutOfMemory → ⊥
no_want true b c at len x e = absurd cc
no_want false true c at len x e = absurd cc
no_want false false true at len x e = absurd cc
no_want false false false at len x e = absurd cc

promised-no_want : (big : Bool) (at : ℕ) (bytes : List ℕ) → promised_at big at bytes ≡ Err OutOfMemory → ⊥
promised-no_want big at bytes e =
    let len = number_at big 4 8 bytes in
    no_want (nat_lt (length bytes) 16) (nat_lt frame_limit len) (nat_lt 4294967295 (at + 16 + len)) at len (placed_at big at len bytes) e

module _ (big : Bool) (at : ℕ) (head into : List ℕ) (small : length head ≤ 16) where
  -- a header that is wrong
  header_told : (a b : Option (List ℕ)) (fault : PcapError) → 0 < length head → Consumes a b head → (length head < 16 → IsAtEnd b) → promised_at big at head ≡ Err fault
      → IfSome a (λ bytes. (0 < length bytes) × (record_at big at bytes ≡ Err fault))
  header_told None b fault some consumed end bad = tt
  header_told (Some bytes) None fault some consumed end bad = absurd consumed
  header_told (Some bytes) (Some rest) fault some consumed end bad = (
    omega (arith, ap (λ (l : List ℕ). length l) consumed, length-append head rest),
    bad-record big at bytes head rest fault consumed end bad,
  )

  pub wrong : (a b : Option (List ℕ)) (fault : PcapError) → 0 < length head → Consumes a b head → (length head < 16 → IsAtEnd b) → promised_at big at head ≡ Err fault
      → TakesRecord big at a b into (Err fault)
  wrong a b fault some consumed end bad = record {
    taken = tt;
    end = λ e. absurd cc;
    err = λ _ _. header_told a b fault some consumed end bad;
    no_memory = λ e. let same : fault ≡ OutOfMemory = cc in absurd (promised-no_want big at head (bad ∙ ap (λ f. Err f) same));
  }

  module _ (placed : Placed) (is : promised_at big at head ≡ Ok placed) where
    sized : length head ≡ 16
    sized = omega (arith, (promise big at head placed is).head)

    -- a whole record
    pub taken_whole : (a b c : Option (List ℕ)) → Consumes a b head → Consumes b c into → length into ≡ placed.len → TakesRecord big at a c into (Ok (Some placed))
    taken_whole a b c first_handed second size =
        let promise = promise big at head placed is in
        let same : placed ≡ record { stamp = placed.stamp; at = at; len = length into } =
        ap (λ n. record { stamp = placed.stamp; at = n; len = placed.len }) promise.place ∙ ap (λ n. record { stamp = placed.stamp; at = at; len = n }) (sym size) in
        record {
          taken = record {
            bytes = head ++ into;
            consumed = Consumes-trans a b c head into first_handed second;
            is = record {
              is = whole-record big at head placed is into size ∙ ap (λ (p : Placed). Ok p) same;
              size = length-append head into ∙ ap (λ n. n + length into) sized;
              behind = seam_at 16 (head ++ into) head into refl sized;
            };
            len = sym size;
            inside = promise.inside;
          };
          end = λ e. absurd cc;
          err = tt;
          no_memory = λ e. absurd cc;
        }

    cut_told : (a b c : Option (List ℕ)) (taken : List ℕ) → Consumes a b head → Consumes b c taken → length taken < placed.len → IsAtEnd c
        → IfSome a (λ bytes. (0 < length bytes) × (record_at big at bytes ≡ Err (Cut at)))
    cut_told None b c taken first_handed second few end = tt
    cut_told (Some bytes) None c taken first_handed second few end = absurd first_handed
    cut_told (Some bytes) (Some rest) None taken first_handed second few end = absurd second
    cut_told (Some bytes) (Some rest) (Some none) taken first_handed second few end =
        let all : bytes ≡ head ++ taken = first_handed ∙ ap (λ l. head ++ l) (second ∙ ap (λ l. taken ++ l) end ∙ append-nil taken) in (
          omega (arith, ap (λ (l : List ℕ). length l) all, length-append head taken, sized),
          ap (record_at big at) all ∙ cut-record big at head placed is taken sized few,
        )

    -- a record whose frame is cut
    pub taken_cut : (a b c : Option (List ℕ)) (taken : List ℕ) → Consumes a b head → Consumes b c taken → length taken < placed.len → IsAtEnd c → TakesRecord big at a c into (Err (Cut at))
    taken_cut a b c taken first_handed second few end = record {
      taken = tt;
      end = λ e. absurd cc;
      err = λ _ _. cut_told a b c taken first_handed second few end;
      no_memory = λ e. absurd cc;
    }

    whole_told : (a b c : Option (List ℕ)) (taken : List ℕ) → Consumes a b head → Consumes b c taken → length taken ≡ placed.len
        → IfSome a (λ bytes. (placed : Placed) × (record_at big at bytes ≡ Ok placed))
    whole_told None b c taken first_handed second size = tt
    whole_told (Some bytes) None c taken first_handed second size = absurd first_handed
    whole_told (Some bytes) (Some rest) None taken first_handed second size = absurd second
    whole_told (Some bytes) (Some rest) (Some behind) taken first_handed second size =
        let all : bytes ≡ (head ++ taken) ++ behind = first_handed ∙ ap (λ l. head ++ l) second ∙ sym (append_assoc head taken behind) in
        (placed, ap (record_at big at) all ∙ record-append big at (head ++ taken) behind placed (whole-record big at head placed is taken size))

    -- a whole record that there is no memory for
    pub taken_without_memory : (a b c : Option (List ℕ)) (taken : List ℕ) → Consumes a b head → Consumes b c taken → length taken ≡ placed.len → TakesRecord big at a c into (Err OutOfMemory)
    taken_without_memory a b c taken first_handed second size = record {
      taken = tt;
      end = λ e. absurd cc;
      err = λ _ no. absurd (no refl);
      no_memory = λ _. whole_told a b c taken first_handed second size;
    }

-- ---- the calls of a reader

module _ (old new : Reader) (placed : Placed) (into : List ℕ) (kind : new.kind ≡ old.kind) (place : new.at ≡ old.at + (16 + placed.len)) where
  pub one_given : (a c : Option (List ℕ)) → IsTaken old.kind.big old.at a c into placed
      → BothTold a c (λ bytes rest. rest_of old bytes ≡ first_handed (record { stamp = placed.stamp; at = old.at; frame = into }) (rest_of new rest))
  unfolding rest_of
  one_given None c is = tt
  one_given (Some bytes) None is = absurd is.consumed
  one_given (Some bytes) (Some rest) is =
      let handed : Handed = record { stamp = placed.stamp; at = old.at; frame = into } in
      let next : old.at + (16 + length into) ≡ new.at = ap (λ n. old.at + (16 + n)) (sym is.len) ∙ sym place in
      peels old.kind.big old.at bytes is.bytes rest placed.stamp into is.consumed is.is
      ∙ ap (λ n. first_handed handed (told_from old.kind.big n rest)) next
      ∙ ap (λ (k : Kind). first_handed handed (told_from k.big new.at rest)) (sym kind)

pub end_given : (old : Reader) (a : Option (List ℕ)) → IfSome a (λ bytes. bytes ≡ []) → IfSome a (λ bytes. (bytes ≡ []) × (rest_of old bytes ≡ told_end None))
unfolding rest_of
end_given old None is = tt
end_given old (Some bytes) is = (is, ap (told_from old.kind.big old.at) is)

not_none : (bytes : List ℕ) → 0 < length bytes → (length bytes == 0) ≡ false
not_none [] some = absurd (omega arith)
not_none (byte ∷ bytes) some = grind (arith, nat_tests)

pub fault_given : (old : Reader) (fault : PcapError) (a : Option (List ℕ)) → IfSome a (λ bytes. (0 < length bytes) × (record_at old.kind.big old.at bytes ≡ Err fault)) → IfSome a (λ bytes. rest_of old bytes ≡ told_end (Some fault))
unfolding rest_of
fault_given old fault None is = tt
fault_given old fault (Some bytes) is = ap (as_told (handed_from old.at bytes)) (stops old.kind.big old.at bytes fault (not_none bytes is.0) is.1)

pub want_given : (old : Reader) (a : Option (List ℕ)) → IfSome a (λ bytes. (placed : Placed) × (record_at old.kind.big old.at bytes ≡ Ok placed))
    → IfSome a (λ bytes. (handed : Handed) × (later : Told) × (rest_of old bytes ≡ first_handed handed later))
unfolding rest_of
want_given old None is = tt
want_given old (Some bytes) is =
    let f = handed_from old.at bytes in
    (f is.0, as_told f (records_from old.kind.big 0 (old.at + (16 + is.0.len)) (drop (16 + is.0.len) bytes)), ap (as_told f) (one_more old.kind.big old.at bytes is.0 is.1))

module _ (old new : Reader) (a c : Option (List ℕ)) (into : List ℕ) where
  pub gives_some : (placed : Placed) → new.kind ≡ old.kind → new.at ≡ old.at + (16 + placed.len) → TakesRecord old.kind.big old.at a c into (Ok (Some placed)) → Gives old new a c into (Ok (Some placed.stamp))
  gives_some placed kind place is = record {
    some = one_given old new placed into kind place a c is.taken;
    end = λ e. absurd cc;
    err = tt;
    no_memory = λ e. absurd cc;
  }

  pub gives_end : TakesRecord old.kind.big old.at a c into (Ok None) → Gives old new a c into (Ok None)
  gives_end is = record { some = tt; end = λ _. (end_given old a (is.end refl).0, (is.end refl).1); err = tt; no_memory = λ e. absurd cc }

  pub gives_fault : (fault : PcapError) → TakesRecord old.kind.big old.at a c into (Err fault) → Gives old new a c into (Err fault)
  gives_fault fault is = record {
    some = tt;
    end = λ e. absurd cc;
    err = λ no_read no_want. fault_given old fault a (is.err no_read no_want);
    no_memory = λ e. let same : fault ≡ OutOfMemory = cc in want_given old a (is.no_memory (ap (λ f. Err f) same));
  }

-- where no read failed and there was memory, the answer is that of the bytes
some_answer : (old new : Reader) (stamp : Stamp) (into : List ℕ) (a c : Option (List ℕ))
    → BothTold a c (λ bytes rest. rest_of old bytes ≡ first_handed (record { stamp = stamp; at = old.at; frame = into }) (rest_of new rest))
    → IfSome a (λ bytes. Ok (Some stamp) ≡ next_answer (rest_of old bytes))
some_answer old new stamp into None c is = tt
some_answer old new stamp into (Some bytes) None is = absurd is
some_answer old new stamp into (Some bytes) (Some rest) is = sym (ap next_answer is)

ended_answer : (old : Reader) (end : Option PcapError) (a : Option (List ℕ)) → IfSome a (λ bytes. rest_of old bytes ≡ told_end end) → IfSome a (λ bytes. next_answer_by [] end ≡ next_answer (rest_of old bytes))
ended_answer old end None is = tt
ended_answer old end (Some bytes) is = sym (ap next_answer is)

pub second : (old : Reader) (a : Option (List ℕ)) → IfSome a (λ bytes. (bytes ≡ []) × (rest_of old bytes ≡ told_end None)) → IfSome a (λ bytes. rest_of old bytes ≡ told_end None)
second old None is = tt
second old (Some bytes) is = is.1

pub answered : (old new : Reader) (a c : Option (List ℕ)) (into : List ℕ) (result : Result (Option Stamp) PcapError) → Gives old new a c into result
    → result ≢ Err Read → result ≢ Err OutOfMemory → IfSome a (λ bytes. result ≡ next_answer (rest_of old bytes))
answered old new a c into (Ok (Some stamp)) gives no_read no_want = some_answer old new stamp into a c gives.some
answered old new a c into (Ok None) gives no_read no_want = ended_answer old None a (second old a (gives.end refl).0)
answered old new a c into (Err fault) gives no_read no_want = ended_answer old (Some fault) a (gives.err (λ e. no_read (ap (λ f. Err f) e)) (λ e. no_want (ap (λ f. Err f) e)))

-- ---- the start

abbrev head_by : Kind → Bool → ℕ → ℕ → ℕ → Result Kind PcapError
head_by kind short major minor link = cond short (Err (Cut 0)) (cond (not ((major == 2) && (minor == 4))) (Err Version) (of_link kind link))

of_kind-append : (o : Option Kind) (xs ys : List ℕ) → 24 ≤ length xs → of_kind o (xs ++ ys) ≡ of_kind o xs
of_kind-append None xs ys long = refl
of_kind-append (Some kind) xs ys long =
    let more : length (xs ++ ys) ≡ length xs + length ys = length-append xs ys in
    let all = xs ++ ys in
    ap (λ b. head_by kind b (number_at kind.big 2 4 all) (number_at kind.big 2 6 all) (number_at kind.big 4 20 all)) (not_short (length all) 24 (omega arith) ∙ sym (not_short (length xs) 24 long))
    ∙ ap (λ n. head_by kind (nat_lt (length xs) 24) n (number_at kind.big 2 6 all) (number_at kind.big 4 20 all)) (number-append kind.big 2 4 xs ys (omega arith))
    ∙ ap (λ n. head_by kind (nat_lt (length xs) 24) (number_at kind.big 2 4 xs) n (number_at kind.big 4 20 all)) (number-append kind.big 2 6 xs ys (omega arith))
    ∙ ap (λ n. head_by kind (nat_lt (length xs) 24) (number_at kind.big 2 4 xs) (number_at kind.big 2 6 xs) n) (number-append kind.big 4 20 xs ys (omega arith))

head_of-append : (xs ys : List ℕ) → 24 ≤ length xs → head_of (xs ++ ys) ≡ head_of xs
head_of-append xs ys long =
    let more : length (xs ++ ys) ≡ length xs + length ys = length-append xs ys in
    let all = xs ++ ys in
    let kind : kind_of all ≡ kind_of xs = ap (λ n. kind_by n (number_at true 4 0 all)) (number-append false 4 0 xs ys (omega arith)) ∙ ap (λ n. kind_by (number_at false 4 0 xs) n) (number-append true 4 0 xs ys (omega arith)) in
    ap (λ b. cond b (Err (Cut 0)) (of_kind (kind_of all) all)) (not_short (length all) 4 (omega arith) ∙ sym (not_short (length xs) 4 (omega arith)))
    ∙ ap (λ r. cond (nat_lt (length xs) 4) (Err (Cut 0)) r) (ap (λ (o : Option Kind). of_kind o all) kind ∙ of_kind-append (kind_of xs) xs ys long)

head_taken : (bytes front rest : List ℕ) → bytes ≡ front ++ rest → (length front < 24 → rest ≡ []) → head_of bytes ≡ head_of front
head_taken bytes front rest e end = elim (cases_lt (length front) 24) [
  | inl short ↦ ap head_of (e ∙ ap (λ l. front ++ l) (end short) ∙ append-nil front)
  | inr long ↦ ap head_of e ∙ head_of-append front rest long
]

module _ (front : List ℕ) (small : length front ≤ 24) where
  reader_given : (reader : Reader) (a b : Option (List ℕ)) → reader.at ≡ 24 → Consumes a b front → (length front < 24 → IsAtEnd b) → head_of front ≡ Ok reader.kind
      → BothTold a b (λ bytes rest. (told bytes ≡ rest_of reader rest) × ((capture bytes).kind ≡ Some reader.kind))
  unfolding rest_of
  reader_given reader None b place consumed end is = tt
  reader_given reader (Some bytes) None place consumed end is = absurd consumed
  reader_given reader (Some bytes) (Some rest) place consumed end is =
      let head : head_of bytes ≡ Ok reader.kind = head_taken bytes front rest consumed end ∙ is in
      let size : length front ≡ 24 = omega (arith, head-long front reader.kind is) in
      (starts reader.kind bytes front rest head consumed size ∙ ap (λ n. told_from reader.kind.big n rest) (sym place), kind_is reader.kind bytes head)

  pub begun : (reader : Reader) (a b : Option (List ℕ)) → reader.at ≡ 24 → Consumes a b front → (length front < 24 → IsAtEnd b) → head_of front ≡ Ok reader.kind → Starts a b (Ok reader)
  begun reader a b place consumed end is = record { ok = reader_given reader a b place consumed end is; err = tt }

  refusal_given : (fault : PcapError) (a b : Option (List ℕ)) → Consumes a b front → (length front < 24 → IsAtEnd b) → head_of front ≡ Err fault → IfSome a (λ bytes. capture bytes ≡ refused_file fault)
  refusal_given fault None b consumed end is = tt
  refusal_given fault (Some bytes) None consumed end is = absurd consumed
  refusal_given fault (Some bytes) (Some rest) consumed end is = refusal_is fault bytes (head_taken bytes front rest consumed end ∙ is)

  pub not_begun : (fault : PcapError) (a b : Option (List ℕ)) → Consumes a b front → (length front < 24 → IsAtEnd b) → head_of front ≡ Err fault → Starts a b (Err fault)
  not_begun fault a b consumed end is = record { ok = tt; err = λ _. refusal_given fault a b consumed end is }

-- ---- how many bytes a call takes at most

pub at_most : (n : ℕ) (a b : Option (List ℕ)) (bytes : List ℕ) → Consumes a b bytes → length bytes ≤ n → TakesAtMost n a b
at_most n a b bytes consumed le = (bytes, consumed, le)

pub at_most_then : (k : ℕ) (a b c : Option (List ℕ)) (m n : ℕ) → TakesAtMost m a b → TakesAtMost n b c → m + n ≤ k → TakesAtMost k a c
at_most_then k a b c m n first_handed second le = (first_handed.0 ++ second.0, Consumes-trans a b c first_handed.0 second.0 first_handed.1 second.1, omega (arith, length-append first_handed.0 second.0, first_handed.2, second.2))

pub at_most_weaker : (n m : ℕ) (a b : Option (List ℕ)) → TakesAtMost m a b → m ≤ n → TakesAtMost n a b
at_most_weaker n m a b is le = (is.0, is.1, omega (arith, is.2))

pub most_taken : (big : Bool) (at : ℕ) (head : List ℕ) (placed : Placed) → promised_at big at head ≡ Ok placed → length head ≤ 16
    → (a b c : Option (List ℕ)) → Consumes a b head → TakesAtMost placed.len b c → TakesAtMost (16 + frame_limit) a c
most_taken big at head placed is small a b c first_handed second =
    let short : placed.len ≤ frame_limit = (promise big at head placed is).short in
    at_most_then (16 + frame_limit) a b c 16 placed.len (head, first_handed, small) second (omega arith)
