-- What is written reads back.
use Rattle.std.proofs.Common.{◌≡◌, ℕ, zero, suc, ◌+◌, ◌<◌, ◌≤◌, ◌^◌, Bool, true, false, cond, not, eqb, List, [], ◌∷◌, ◌++◌, length, take, drop, Option, Some, None, Result, Ok, Err, refl, sym, ap, subst, ◌∙◌, append_assoc, arith}
use Rattle.std.specs.Prelude.{◌&&◌, nat_lt, map}
use Rattle.std.specs.List.{AllByRecursion}
use Rattle.std.proofs.Math.Seq.{drop-append_seam, drop-length, take-length}
use Rattle.std.proofs.lemmas.Bool.Decides.{nat_tests}
use Rattle.std.proofs.lemmas.List.{drop-append-le, take-append-le, length-append, length-drop, map-append}
use Rattle.byteorder.specs.Endian.{big_number, little_number}
use Rattle.byteorder.specs.Numbers.{big_from-append, little_from-append, big_number-reads_back, little_number-reads_back, length-bytes_high_first, length-bytes_low_first}
use Rattle.pcap_files.specs.declared.kinds.Kind.{Kind}
use Rattle.pcap_files.specs.declared.kinds.Stamp.{Stamp}
use Rattle.pcap_files.specs.declared.kinds.Placed.{Placed}
use Rattle.pcap_files.specs.declared.kinds.Records.{Records}
use Rattle.pcap_files.specs.declared.fault.PcapError.{PcapError}
use Rattle.pcap_files.specs.declared.fault.PcapError.TheVariants.{Version, Cut, TooLong, Length}
use Rattle.pcap_files.specs.Capture.{number_at, kind_by, kind_of, has_version, of_link, of_kind, head_of, record_at, records_from, captured, capture, frame_of, frames, IsWithin}
use Rattle.pcap_files.specs.Writing.{bytes_of, head_bytes, record_bytes, faultless, IsStampInRange, IsAdded}
use Rattle.pcap_files.proofs.Heads.{IsAccepted, head-accepted}
use Rattle.pcap_files.proofs.Walk.{before, whole, one_more, within_of}
use Rattle.apf_base.specs.Limits.{frame_limit}

-- ---- numbers

-- bytes behind those of a number don't change it
pub number-append : (big : Bool) (n at : ℕ) (xs ys : List ℕ) → at + n ≤ length xs → number_at big n at (xs ++ ys) ≡ number_at big n at xs
number-append true n at xs ys le = ap (big_number n) (drop-append-le at xs ys (omega arith)) ∙ big_from-append n (drop at xs) ys (omega (arith, length-drop at xs))
number-append false n at xs ys le = ap (little_number n) (drop-append-le at xs ys (omega arith)) ∙ little_from-append n (drop at xs) ys (omega (arith, length-drop at xs))

length-bytes_of : (big : Bool) (n x : ℕ) → length (bytes_of big n x) ≡ n
length-bytes_of true n x = length-bytes_high_first n x
length-bytes_of false n x = length-bytes_low_first 0 n x

seam : (at : ℕ) (front rest : List ℕ) → length front ≡ at → drop at (front ++ rest) ≡ rest
seam at front rest e = ap (λ (k : ℕ). drop k (front ++ rest)) (sym e) ∙ drop-append_seam front rest

-- a number reads back behind other bytes
number-spelled : (big : Bool) (n x at : ℕ) (bytes front rest : List ℕ) → bytes ≡ front ++ (bytes_of big n x ++ rest) → length front ≡ at → x < 256 ^ n → number_at big n at bytes ≡ x
number-spelled true n x at bytes front rest e place lt =
    ap (λ (bs : List ℕ). big_number n (drop at bs)) e ∙ ap (big_number n) (seam at front (bytes_of true n x ++ rest) place) ∙ big_number-reads_back n x rest lt
number-spelled false n x at bytes front rest e place lt =
    ap (λ (bs : List ℕ). little_number n (drop at bs)) e ∙ ap (little_number n) (seam at front (bytes_of false n x ++ rest) place) ∙ little_number-reads_back n x rest lt

-- ---- the file header

pub not_short : (n k : ℕ) → k ≤ n → nat_lt n k ≡ false
not_short n k le = grind (arith, nat_tests)

passed : {A E : Type 0} (b : Bool) (e : E) (later : Result A E) → b ≡ false → cond b (Err e) later ≡ later
passed true e later is = absurd cc
passed false e later is = refl

accepted-head : (bytes : List ℕ) (kind : Kind) → IsAccepted bytes kind → head_of bytes ≡ Ok kind
accepted-head bytes kind is =
    let version : not (has_version kind.big bytes) ≡ false = ap not is.version in
    passed (nat_lt (length bytes) 4) (Cut 0) (of_kind (kind_of bytes) bytes) (not_short (length bytes) 4 (omega (arith, is.long)))
    ∙ ap (λ (o : Option Kind). of_kind o bytes) is.magic
    ∙ passed (nat_lt (length bytes) 24) (Cut 0) _ (not_short (length bytes) 24 is.long)
    ∙ passed (not (has_version kind.big bytes)) Version _ version
    ∙ ap (of_link kind) is.link

head-append : (xs ys : List ℕ) (kind : Kind) → head_of xs ≡ Ok kind → head_of (xs ++ ys) ≡ Ok kind
head-append xs ys kind e =
    let is = head-accepted xs kind e in
    let long : 24 ≤ length xs = is.long in
    accepted-head (xs ++ ys) kind (record {
      magic = ap (λ (n : ℕ). kind_by n (number_at true 4 0 (xs ++ ys))) (number-append false 4 0 xs ys (omega arith))
          ∙ ap (λ (n : ℕ). kind_by (number_at false 4 0 xs) n) (number-append true 4 0 xs ys (omega arith))
          ∙ is.magic;
      long = omega (arith, length-append xs ys);
      version = ap (λ (n : ℕ). eqb n 2 && eqb (number_at kind.big 2 6 (xs ++ ys)) 4) (number-append kind.big 2 4 xs ys (omega arith))
          ∙ ap (λ (n : ℕ). eqb (number_at kind.big 2 4 xs) 2 && eqb n 4) (number-append kind.big 2 6 xs ys (omega arith))
          ∙ is.version;
      link = number-append kind.big 4 20 xs ys (omega arith) ∙ is.link;
    })

head_whole : (big nano : Bool) → capture (head_bytes (record { big = big; nano = nano })) ≡ faultless (record { big = big; nano = nano }) []
unfolding capture
head_whole true true = refl
head_whole true false = refl
head_whole false true = refl
head_whole false false = refl

-- a header alone
pub head_reads_back : (kind : Kind) (old new : List ℕ) → new ≡ old ++ head_bytes kind → old ≡ [] → capture new ≡ faultless kind []
head_reads_back kind old new e none = ap capture (e ∙ ap (λ (front : List ℕ). front ++ head_bytes kind) none) ∙ head_whole kind.big kind.nano

-- ---- a record

abbrev pub made_of : ℕ → ℕ → ℕ → ℕ → ℕ → Placed
made_of at len sec fraction original = record { stamp = record { sec = sec; fraction = fraction; original = original }; at = at; len = len }

all_passed : (a b c d : Bool) (e f g h : PcapError) (x : Placed) → a ≡ false → b ≡ false → c ≡ false → d ≡ false → cond a (Err e) (cond b (Err f) (cond c (Err g) (cond d (Err h) (Ok x)))) ≡ Ok x
all_passed a b c d e f g h x p q r s = passed a e _ p ∙ passed b f _ q ∙ passed c g _ r ∙ passed d h (Ok x) s

same_record : (at l m s t f g o p : ℕ) → l ≡ m → s ≡ t → f ≡ g → o ≡ p → made_of at l s f o ≡ made_of at m t g p
same_record at l m s t f g o p a b c d = rw (a, b, c, d) refl

-- by the numbers that stand there
record-made : (big : Bool) (at : ℕ) (bytes : List ℕ) (len sec fraction original : ℕ)
    → number_at big 4 8 bytes ≡ len → number_at big 4 0 bytes ≡ sec → number_at big 4 4 bytes ≡ fraction → number_at big 4 12 bytes ≡ original
    → len ≤ frame_limit → at + 16 + len ≤ 4294967295 → 16 + len ≤ length bytes → record_at big at bytes ≡ Ok (made_of at len sec fraction original)
record-made big at bytes len sec fraction original is s f o short inside fits =
    let n = number_at big 4 8 bytes in
    all_passed (nat_lt (length bytes) 16) (nat_lt frame_limit n) (nat_lt 4294967295 (at + 16 + n)) (nat_lt (length bytes) (16 + n)) (Cut at) (TooLong at n) Length (Cut at) _
    (not_short (length bytes) 16 (omega arith)) (not_short frame_limit n (omega arith)) (not_short 4294967295 (at + 16 + n) (omega arith)) (not_short (length bytes) (16 + n) (omega arith))
    ∙ ap Ok (same_record at n len _ sec _ fraction _ original is s f o)

-- bytes behind a whole record don't change it
pub record-append : (big : Bool) (at : ℕ) (xs ys : List ℕ) (placed : Placed) → record_at big at xs ≡ Ok placed → record_at big at (xs ++ ys) ≡ Ok placed
record-append big at xs ys placed e =
    let fits = whole big at xs placed e in
    let head : 16 ≤ length xs = fits.head in
    let more : length (xs ++ ys) ≡ length xs + length ys = length-append xs ys in
    let n : number_at big 4 8 xs ≡ placed.len = ap (λ (p : Placed). p.len) fits.is in
    record-made big at (xs ++ ys) (number_at big 4 8 xs) (number_at big 4 0 xs) (number_at big 4 4 xs) (number_at big 4 12 xs)
    (number-append big 4 8 xs ys (omega arith)) (number-append big 4 0 xs ys (omega arith)) (number-append big 4 4 xs ys (omega arith)) (number-append big 4 12 xs ys (omega arith))
    (omega (arith, fits.short)) (omega (arith, fits.inside)) (omega (arith, fits.frame))
    ∙ ap Ok fits.is

-- ---- records behind others

abbrev found : Bool → ℕ → List ℕ → Result Placed PcapError → List Placed × Option PcapError
found big at bytes (Err fault) = ([], Some fault)
found big at bytes (Ok placed) = let more = records_from big (15 + placed.len) (at + 1) bytes in (placed ∷ more.0, more.1)

found_append : (big : Bool) (at byte : ℕ) (xs ys : List ℕ)
    → ((skip : ℕ) → skip ≤ length xs → (records_from big skip (at + 1) xs).1 ≡ None → records_from big skip (at + 1) (xs ++ ys) ≡ before (records_from big skip (at + 1) xs).0 (records_from big 0 (at + 1 + length xs) ys))
    → (r : Result Placed PcapError) → record_at big at (byte ∷ xs) ≡ r → (found big at xs r).1 ≡ None
    → records_from big 0 at (byte ∷ (xs ++ ys)) ≡ before (found big at xs r).0 (records_from big 0 (at + suc (length xs)) ys)
found_append big at byte xs ys rest (Err fault) e none = absurd cc
found_append big at byte xs ys rest (Ok placed) e none =
    let fits = whole big at (byte ∷ xs) placed e in
    let kept = record-append big at (byte ∷ xs) ys placed e in
    let place : at + 1 + length xs ≡ at + suc (length xs) = omega arith in
    let later = rest (15 + placed.len) (omega (arith, fits.frame)) none ∙ ap (λ (n : ℕ). before (records_from big (15 + placed.len) (at + 1) xs).0 (records_from big 0 n ys)) place in
    rw (kept, records_from) (ap (λ (f : List Placed × Option PcapError). (placed ∷ f.0, f.1)) later)

records-append : (big : Bool) (skip at : ℕ) (xs ys : List ℕ) → skip ≤ length xs → (records_from big skip at xs).1 ≡ None
    → records_from big skip at (xs ++ ys) ≡ before (records_from big skip at xs).0 (records_from big 0 (at + length xs) ys)
records-append big zero at [] ys le none = let here : at ≡ at + zero = omega arith in ap (λ (n : ℕ). records_from big 0 n ys) here
records-append big (suc skip) at [] ys le none = absurd (omega arith)
records-append big (suc skip) at (byte ∷ xs) ys le none =
    let place : at + 1 + length xs ≡ at + suc (length xs) = omega arith in
    records-append big skip (at + 1) xs ys (omega arith) none ∙ ap (λ (n : ℕ). before (records_from big skip (at + 1) xs).0 (records_from big 0 n ys)) place
records-append big zero at (byte ∷ xs) ys le none =
    found_append big at byte xs ys (λ skip less no. records-append big skip (at + 1) xs ys less no) (record_at big at (byte ∷ xs)) refl none

-- ---- a record that was written

four-front : (p q r s t : List ℕ) → p ++ q ++ r ++ s ++ t ≡ p ++ (q ++ (r ++ s ++ t))
four-front p q r s t = simp append_assoc

four-second : (p q r s t : List ℕ) → p ++ q ++ r ++ s ++ t ≡ (p ++ q) ++ (r ++ (s ++ t))
four-second p q r s t = simp append_assoc

abbrev placed_of : Stamp → ℕ → ℕ → Placed
placed_of stamp at len = record { stamp = stamp; at = at; len = len }

module _ (big : Bool) (stamp : Stamp) (frame : List ℕ) (short : length frame ≤ frame_limit) where
  abbrev a : List ℕ
  a = bytes_of big 4 stamp.sec

  abbrev b : List ℕ
  b = bytes_of big 4 stamp.fraction

  abbrev c : List ℕ
  c = bytes_of big 4 (length frame)

  abbrev d : List ℕ
  d = bytes_of big 4 stamp.original

  abbrev spelled : List ℕ
  spelled = record_bytes big stamp frame

  length-a : length a ≡ 4
  length-a = length-bytes_of big 4 stamp.sec

  length-ab : length (a ++ b) ≡ 8
  length-ab = omega (arith, length-append a b, length-a, length-bytes_of big 4 stamp.fraction)

  length-abc : length (a ++ b ++ c) ≡ 12
  length-abc = omega (arith, length-append (a ++ b) c, length-ab, length-bytes_of big 4 (length frame))

  length-abcd : length (a ++ b ++ c ++ d) ≡ 16
  length-abcd = omega (arith, length-append (a ++ b ++ c) d, length-abc, length-bytes_of big 4 stamp.original)

  length-spelled : length spelled ≡ 16 + length frame
  length-spelled = omega (arith, length-append (a ++ b ++ c ++ d) frame, length-abcd)

  one : (at : ℕ) → IsStampInRange stamp → at + 16 + length frame ≤ 4294967295 → record_at big at spelled ≡ Ok (placed_of stamp at (length frame))
  one at range inside =
      let fits : length frame < 256 ^ 4 = omega arith in
      record-made big at spelled (length frame) stamp.sec stamp.fraction stamp.original
      (number-spelled big 4 (length frame) 8 spelled (a ++ b) (d ++ frame) (four-second a b c d frame) length-ab fits)
      (number-spelled big 4 stamp.sec 0 spelled [] (b ++ (c ++ d ++ frame)) (four-front a b c d frame) refl range.sec)
      (number-spelled big 4 stamp.fraction 4 spelled a (c ++ d ++ frame) (four-front a b c d frame) length-a range.fraction)
      (number-spelled big 4 stamp.original 12 spelled (a ++ b ++ c) frame (append_assoc (a ++ b ++ c) d frame) length-abc range.original)
      short inside (omega (arith, length-spelled))

  -- it is all that is found
  alone : (at : ℕ) → IsStampInRange stamp → at + 16 + length frame ≤ 4294967295 → records_from big 0 at spelled ≡ (placed_of stamp at (length frame) ∷ [], None)
  alone at range inside =
      let end : drop (16 + length frame) spelled ≡ [] = ap (λ (n : ℕ). drop n spelled) (sym length-spelled) ∙ drop-length spelled in
      one_more big at spelled (placed_of stamp at (length frame)) (one at range inside)
      ∙ ap (λ (rest : List ℕ). before (placed_of stamp at (length frame) ∷ []) (records_from big 0 (at + (16 + length frame)) rest)) end

  -- its frame reads back
  frame_back : (old : List ℕ) → frame_of (old ++ spelled) (placed_of stamp (length old) (length frame)) ≡ frame
  frame_back old =
      let place : length (old ++ (a ++ b ++ c ++ d)) ≡ length old + 16 = omega (arith, length-append old (a ++ b ++ c ++ d), length-abcd) in
      let behind : drop (length old + 16) (old ++ spelled) ≡ frame =
      ap (drop (length old + 16)) (sym (append_assoc old (a ++ b ++ c ++ d) frame)) ∙ seam (length old + 16) (old ++ (a ++ b ++ c ++ d)) frame place in
      ap (take (length frame)) behind ∙ take-length frame

-- ---- frames that stood before

frame_kept : (old more : List ℕ) (placed : Placed) → IsWithin (length old) placed → frame_of (old ++ more) placed ≡ frame_of old placed
frame_kept old more placed fits =
    let place : placed.at + 16 + placed.len ≤ length old = fits.place in
    ap (take placed.len) (drop-append-le (placed.at + 16) old more (omega arith))
    ∙ take-append-le placed.len (drop (placed.at + 16) old) more (omega (arith, length-drop (placed.at + 16) old))

frames_kept : (old more : List ℕ) (list : List Placed) → AllByRecursion (IsWithin (length old)) list → map (frame_of (old ++ more)) list ≡ map (frame_of old) list
frames_kept old more [] fits = refl
frames_kept old more (placed ∷ list) fits =
    let first = frame_kept old more placed fits.0 in
    let rest = frames_kept old more list fits.1 in
    ap (λ (frame : List ℕ). frame ∷ map (frame_of (old ++ more)) list) first ∙ ap (λ (frames : List (List ℕ)). frame_of old placed ∷ frames) rest

-- ---- a record behind a capture without a fault

kind_from : (bytes : List ℕ) (kind : Kind) (r : Result Kind PcapError) → head_of bytes ≡ r → (captured r bytes).kind ≡ Some kind → head_of bytes ≡ Ok kind
kind_from bytes kind (Err fault) e is = absurd cc
kind_from bytes kind (Ok other) e is = let same : other ≡ kind = cc in e ∙ ap Ok same

accepted_kind : (bytes : List ℕ) (kind : Kind) → (capture bytes).kind ≡ Some kind → head_of bytes ≡ Ok kind
unfolding capture
accepted_kind bytes kind is = kind_from bytes kind (head_of bytes) refl is

capture-is : (bytes : List ℕ) (kind : Kind) → head_of bytes ≡ Ok kind → capture bytes ≡ captured (Ok kind) bytes
unfolding capture
capture-is bytes kind e = ap (λ (r : Result Kind PcapError). captured r bytes) e

module _ (kind : Kind) (stamp : Stamp) (frame old : List ℕ) (short : length frame ≤ frame_limit) (range : IsStampInRange stamp) where
  abbrev more : List ℕ
  more = record_bytes kind.big stamp frame

  abbrev walked : List Placed × Option PcapError
  walked = records_from kind.big 0 24 (drop 24 old)

  walk_on : 24 ≤ length old → walked.1 ≡ None → length old + 16 + length frame ≤ 4294967295
      → records_from kind.big 0 24 (drop 24 (old ++ more)) ≡ (walked.0 ++ placed_of stamp (length old) (length frame) ∷ [], None)
  walk_on long none inside =
      let place : 24 + length (drop 24 old) ≡ length old = omega (arith, length-drop 24 old) in
      ap (records_from kind.big 0 24) (drop-append-le 24 old more long)
      ∙ records-append kind.big 0 24 (drop 24 old) more (omega arith) none
      ∙ ap (λ (n : ℕ). before walked.0 (records_from kind.big 0 n more)) place
      ∙ ap (before walked.0) (alone kind.big stamp frame short (length old) range inside)

  records_added : head_of old ≡ Ok kind → (capture old).end ≡ None → length old + 16 + length frame ≤ 4294967295
      → capture (old ++ more) ≡ faultless kind ((capture old).list ++ placed_of stamp (length old) (length frame) ∷ [])
  records_added head none inside =
      let is = capture-is old kind head in
      let end : walked.1 ≡ None = ap (λ (r : Records). r.end) (sym is) ∙ none in
      capture-is (old ++ more) kind (head-append old more kind head)
      ∙ ap (λ (f : List Placed × Option PcapError). record { kind = Some kind; list = f.0; end = f.1 }) (walk_on (head-accepted old kind head).long end inside)
      ∙ ap (λ (r : Records). faultless kind (r.list ++ placed_of stamp (length old) (length frame) ∷ [])) (sym is)

  frames_added : capture (old ++ more) ≡ faultless kind ((capture old).list ++ placed_of stamp (length old) (length frame) ∷ []) → frames (old ++ more) ≡ frames old ++ frame ∷ []
  frames_added e =
      ap (λ (r : Records). map (frame_of (old ++ more)) r.list) e
      ∙ map-append (frame_of (old ++ more)) (capture old).list (placed_of stamp (length old) (length frame) ∷ [])
      ∙ ap (λ (fs : List (List ℕ)). fs ++ frame_of (old ++ more) (placed_of stamp (length old) (length frame)) ∷ []) (frames_kept old more (capture old).list (within_of old))
      ∙ ap (λ (f : List ℕ). frames old ++ f ∷ []) (frame_back kind.big stamp frame short old)

  pub put_reads_back : (new : List ℕ) → new ≡ old ++ more → (capture old).kind ≡ Some kind → (capture old).end ≡ None → length new ≤ 4294967295 → IsAdded kind stamp frame old new
  put_reads_back new e is none fits =
      let size : length new ≡ length old + (16 + length frame) = ap length e ∙ length-append old more ∙ ap (λ (n : ℕ). length old + n) (length-spelled kind.big stamp frame short) in
      let added = records_added (accepted_kind old kind is) none (omega arith) in
      subst (λ (bytes : List ℕ). IsAdded kind stamp frame old bytes) (sym e) (record { records = added; frames = frames_added added })
