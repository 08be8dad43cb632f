-- The options of an accepted frame tile it from byte 70 to its end.
use Rattle.std.proofs.Common.{◌≡◌, ℕ, zero, suc, ◌+◌, ◌-◌, ◌*◌, ◌<◌, ◌≤◌, Bool, true, false, cond, List, [], ◌∷◌, ◌++◌, length, drop, Option, None, Some, Result, Ok, Err, refl, sym, ap, subst, ◌∙◌, arith, All, drop-drop, length-drop, drop_of_length-le, ltb-false, le-ltb, eq-eqb, eqb-true, ne_eqb}
use Rattle.std.specs.Prelude.{◌&&◌, ◌==◌, nat_lt, slice_index}
use Rattle.std.specs.List.{flat_map, AllByRecursion}
use Rattle.std.proofs.lemmas.List.{get_or-drop}
use Rattle.std.proofs.lemmas.List.Elements.{All-from_recursion, All-head, All-tail}
use Rattle.ra_records.specs.declared.span.Span.{Span}
use Rattle.ra_records.specs.declared.span.RaError.{RaError}
use Rattle.ra_records.specs.declared.span.RaError.TheVariants.{NotRa, Short, TooLong}
use Rattle.ra_records.specs.Masks.{span}
use Rattle.ra_records.specs.Tiling.{Tile, IsOption, AreOptions, lifetimes_at}
use Rattle.ra_records.specs.Options.{lifetimes_of, size_of, option_refusal, with_lifetimes, unless_refused, options_from}
use Rattle.ra_records.specs.Advert.{Advert, router, candidate, lifetimes_in, seen_at, advert, advertisement_limit, options_at}
use Rattle.ra_records.proofs.Walk.{whole, one_more, front_ok}
use Rattle.ra_records.proofs.Matching.{read_from}

abbrev Ranges : Type 0
Ranges = Result (List Span) RaError

-- ---- one option

at_drop : (frame bytes : List ℕ) (at k : ℕ) → bytes ≡ drop at frame → slice_index bytes k ≡ slice_index frame (at + k)
at_drop frame bytes at k e = ap (λ (xs : List ℕ). slice_index xs k) e ∙ get_or-drop at frame k 0

at_first : (frame bytes : List ℕ) (at : ℕ) → bytes ≡ drop at frame → slice_index bytes 0 ≡ slice_index frame at
at_first frame bytes at e = let n : at + 0 ≡ at = omega arith in at_drop frame bytes at 0 e ∙ ap (λ (k : ℕ). slice_index frame k) n

enough : (kind size : ℕ) → ((kind == 3) && nat_lt size 16) ≡ false → kind ≡ 3 → 16 ≤ size
enough kind size h e = ltb-false size 16 (sym (ap (λ (b : Bool). b && nat_lt size 16) (eq-eqb kind 3 e)) ∙ h)

-- an option that isn't refused
is_option : (frame bytes : List ℕ) (at : ℕ) → bytes ≡ drop at frame → option_refusal at bytes ≡ None → IsOption frame (span at (size_of bytes))
is_option frame bytes at e none =
    let is = whole at bytes none in
    record {
      some = omega (arith, is.some);
      size = ap (λ (n : ℕ). 8 * n) (at_drop frame bytes at 1 e);
      long = λ prefix. enough (slice_index bytes 0) (size_of bytes) is.long (at_first frame bytes at e ∙ prefix);
    }

-- ---- from an accepted frame to its options

-- options tile the bytes from one place up to another, and these are the ranges of their lifetimes
record IsTiled (frame : List ℕ) (from end : ℕ) (found : List Span) : Type 0 where
  options : List Span
  tile : Tile from options end
  each : AllByRecursion (IsOption frame) options
  lifetimes : found ≡ flat_map (lifetimes_at frame) options

tiled_cases : (frame : List ℕ) (o : Option RaError) (read : Ranges) (kind at size end : ℕ) (found : List Span) → kind ≡ slice_index frame at
    → (o ≡ None → IsOption frame (span at size)) → (o ≡ None → (more : List Span) → read ≡ Ok more → IsTiled frame (at + size) end more)
    → unless_refused o (with_lifetimes (lifetimes_of kind at) read) ≡ Ok found → IsTiled frame at end found
tiled_cases frame (Some e) read kind at size end found k is more h = absurd cc
tiled_cases frame None (Err e) kind at size end found k is more h = absurd cc
tiled_cases frame None (Ok later) kind at size end found k is more h =
    let rest = more refl later refl in
    let e : found ≡ lifetimes_of kind at ++ later = cc in
    record {
      options = span at size ∷ rest.options;
      tile = (refl, rest.tile);
      each = (is refl, rest.each);
      lifetimes = e ∙ ap (λ (k : ℕ). lifetimes_of k at ++ later) k ∙ ap (λ (xs : List Span). lifetimes_of (slice_index frame at) at ++ xs) rest.lifetimes;
    }

next_bytes : (frame bytes : List ℕ) (byte at : ℕ) → byte ∷ bytes ≡ drop at frame → bytes ≡ drop (at + 1) frame
next_bytes frame bytes byte at e = ap (λ (xs : List ℕ). drop 1 xs) e ∙ drop-drop 1 at frame

tiled : (skip at : ℕ) (frame bytes : List ℕ) (found : List Span) → bytes ≡ drop at frame → skip ≤ length bytes
    → options_from skip at bytes ≡ Ok found → IsTiled frame (at + skip) (at + length bytes) found
tiled skip at frame [] found e le h =
    let none : found ≡ [] = cc in
    record { options = []; tile = omega arith; each = tt; lifetimes = none }
tiled (suc skip) at frame (byte ∷ bytes) found e le h =
    let n : at + 1 + skip ≡ at + suc skip = omega arith in
    let m : at + 1 + length bytes ≡ at + length (byte ∷ bytes) = omega arith in
    subst (λ (n : ℕ). IsTiled frame n (at + length (byte ∷ bytes)) found) n
    (subst (λ (m : ℕ). IsTiled frame (at + 1 + skip) m found) m (tiled skip (at + 1) frame bytes found (next_bytes frame bytes byte at e) (omega arith) h))
tiled zero at frame (byte ∷ bytes) found e le h =
    let here : at + 0 ≡ at = omega arith in
    subst (λ (n : ℕ). IsTiled frame n (at + length (byte ∷ bytes)) found) (sym here)
    (tiled_cases frame (option_refusal at (byte ∷ bytes)) (options_from (8 * slice_index bytes 0 - 1) (at + 1) bytes) byte at (size_of (byte ∷ bytes)) (at + length (byte ∷ bytes)) found
    (at_first frame (byte ∷ bytes) at e) (is_option frame (byte ∷ bytes) at e)
    (λ none more read.
    let is = whole at (byte ∷ bytes) none in
    let n : at + 1 + (8 * slice_index bytes 0 - 1) ≡ at + size_of (byte ∷ bytes) = omega (arith, is.some) in
    let m : at + 1 + length bytes ≡ at + length (byte ∷ bytes) = omega arith in
    subst (λ (n : ℕ). IsTiled frame n (at + length (byte ∷ bytes)) more) n
    (subst (λ (m : ℕ). IsTiled frame (at + 1 + (8 * slice_index bytes 0 - 1)) m more) m
    (tiled (8 * slice_index bytes 0 - 1) (at + 1) frame bytes more (next_bytes frame bytes byte at e) (omega (arith, is.some, is.fits)) read)))
    h)

tests : (a b c : Bool) (found : List Span) (read : Ranges)
    → cond a (cond b (Err Short) (cond c (Err TooLong) (with_lifetimes (router ∷ []) read))) (Err NotRa) ≡ Ok found → (b ≡ false) × (with_lifetimes (router ∷ []) read ≡ Ok found)
tests false b c found read h = absurd cc
tests true true c found read h = absurd cc
tests true false true found read h = absurd cc
tests true false false found read h = (refl, h)

-- the options of a frame whose lifetimes are found
pub options_of_lifetimes : (frame : List ℕ) (found : List Span) → lifetimes_in frame ≡ Ok found
    → (options : List Span) × AreOptions frame options × (found ≡ router ∷ flat_map (lifetimes_at frame) options)
options_of_lifetimes frame found h =
    let passed = tests (candidate frame) (nat_lt (length frame) options_at) (nat_lt advertisement_limit (length frame)) found (options_from 0 options_at (drop options_at frame)) h in
    let long : options_at ≤ length frame = ltb-false _ _ passed.0 in
    let more = front_ok (router ∷ []) found (options_from 0 options_at (drop options_at frame)) passed.1 in
    let size : options_at + length (drop options_at frame) ≡ length frame = omega (arith, length-drop options_at frame) in
    let is = subst (λ (n : ℕ). IsTiled frame options_at n more.0) size (tiled 0 options_at frame (drop options_at frame) more.0 refl (omega arith) more.1) in
    (is.options, record { tile = is.tile; each = All-from_recursion (IsOption frame) is.options is.each }, sym more.2 ∙ ap (λ (xs : List Span). router ∷ xs) is.lifetimes)

pub options-some : (frame : List ℕ) (now : ℕ) (r : Advert) → advert frame now ≡ Ok r
    → (options : List Span) × AreOptions frame options × (r.lifetimes ≡ router ∷ flat_map (lifetimes_at frame) options)
options-some frame now r e =
    let read = read_from frame now r e in
    let is = options_of_lifetimes frame read.0 read.1 in
    (is.0, is.1, sym (ap (λ (r : Advert). r.lifetimes) read.2) ∙ is.2)

-- ---- there is one such list

tile_end : (from : ℕ) (spans : List Span) (end : ℕ) → Tile from spans end → from ≤ end
tile_end from [] end h = omega arith
tile_end from (s ∷ spans) end h = let more = tile_end (s.at + s.len) spans end h.1 in omega (arith, h.0)

one_tile : (frame : List ℕ) (from end : ℕ) (xs ys : List Span) → Tile from xs end → Tile from ys end → All (IsOption frame) xs → All (IsOption frame) ys → xs ≡ ys
one_tile frame from end [] [] h k a b = refl
one_tile frame from end [] (y ∷ ys) h k a b =
    let last = tile_end (y.at + y.len) ys end k.1 in
    let is = All-head (IsOption frame) y ys b in
    absurd (omega (arith, h, k.0, is.some))
one_tile frame from end (x ∷ xs) [] h k a b =
    let last = tile_end (x.at + x.len) xs end h.1 in
    let is = All-head (IsOption frame) x xs a in
    absurd (omega (arith, k, h.0, is.some))
one_tile frame from end (x ∷ xs) (y ∷ ys) h k a b =
    let one = All-head (IsOption frame) x xs a in
    let other = All-head (IsOption frame) y ys b in
    let place : x.at ≡ y.at = h.0 ∙ sym k.0 in
    let size : x.len ≡ y.len = one.size ∙ ap (λ (n : ℕ). 8 * slice_index frame (n + 1)) place ∙ sym other.size in
    let front : x ≡ y = ap (λ (n : ℕ). span n x.len) place ∙ ap (λ (n : ℕ). span y.at n) size in
    let next : y.at + y.len ≡ x.at + x.len = omega arith in
    let rest : xs ≡ ys = one_tile frame (x.at + x.len) end xs ys h.1 (subst (λ (n : ℕ). Tile n ys end) next k.1) (All-tail (IsOption frame) x xs a) (All-tail (IsOption frame) y ys b) in
    ap (λ (s : Span). s ∷ xs) front ∙ ap (λ (spans : List Span). y ∷ spans) rest

pub options-one : (frame : List ℕ) (first second : List Span) → AreOptions frame first → AreOptions frame second → first ≡ second
options-one frame first second a b = one_tile frame options_at (length frame) first second a.tile b.tile a.each b.each

-- ---- from options to an accepted frame

not_refused : (at : ℕ) (bytes : List ℕ) → 0 < size_of bytes → size_of bytes ≤ length bytes → (slice_index bytes 0 ≡ 3 → 16 ≤ size_of bytes) → option_refusal at bytes ≡ None
not_refused at bytes some fits long =
    let head : nat_lt (length bytes) 2 ≡ false = le-ltb (length bytes) 2 (omega arith) in
    let counted : (slice_index bytes 1 == 0) ≡ false = ne_eqb (slice_index bytes 1) 0 (λ e. omega arith) in
    let whole : nat_lt (length bytes) (size_of bytes) ≡ false = le-ltb (length bytes) (size_of bytes) fits in
    let prefix : ((slice_index bytes 0 == 3) && nat_lt (size_of bytes) 16) ≡ false = short (slice_index bytes 0 == 3) (size_of bytes) (λ e. long (eqb-true (slice_index bytes 0) 3 e)) in
    rw (head, counted, whole, prefix) refl
  where
    short : (t : Bool) (size : ℕ) → (t ≡ true → 16 ≤ size) → (t && nat_lt size 16) ≡ false
    short true size h = le-ltb size 16 (h refl)
    short false size h = refl

walked : (frame : List ℕ) (options : List Span) (at : ℕ) (bytes : List ℕ) → bytes ≡ drop at frame → Tile at options (length frame) → All (IsOption frame) options
    → options_from 0 at bytes ≡ Ok (flat_map (lifetimes_at frame) options)
walked frame [] at bytes e h a =
    let none : bytes ≡ [] = e ∙ drop_of_length-le frame (omega arith) in
    ap (λ (xs : List ℕ). options_from 0 at xs) none
walked frame (s ∷ options) at bytes e h a =
    let is = All-head (IsOption frame) s options a in
    let size : size_of bytes ≡ s.len = ap (λ (n : ℕ). 8 * n) (at_drop frame bytes at 1 e) ∙ ap (λ (n : ℕ). 8 * slice_index frame (n + 1)) (sym h.0) ∙ sym is.size in
    let last = tile_end (s.at + s.len) options (length frame) h.1 in
    let kind : slice_index bytes 0 ≡ slice_index frame s.at = at_first frame bytes at e ∙ ap (λ (n : ℕ). slice_index frame n) (sym h.0) in
    let left : length bytes ≡ length frame - at = ap length e ∙ length-drop at frame in
    let none = not_refused at bytes (omega (arith, is.some)) (omega (arith, h.0)) (λ prefix. let l : 16 ≤ s.len = is.long (sym kind ∙ prefix) in omega arith) in
    let next : s.at + s.len ≡ at + size_of bytes = omega (arith, h.0) in
    let rest = walked frame options (at + size_of bytes) (drop (size_of bytes) bytes) (ap (λ (xs : List ℕ). drop (size_of bytes) xs) e ∙ drop-drop (size_of bytes) at frame)
    (subst (λ (n : ℕ). Tile n options (length frame)) next h.1) (All-tail (IsOption frame) s options a) in
    one_more at bytes none
    ∙ ap (with_lifetimes (lifetimes_of (slice_index bytes 0) at)) rest
    ∙ ap (λ (k : ℕ). Ok (lifetimes_of k at ++ flat_map (lifetimes_at frame) options)) kind
    ∙ ap (λ (n : ℕ). Ok (lifetimes_of (slice_index frame s.at) n ++ flat_map (lifetimes_at frame) options)) (sym h.0)

pub options-accepted : (frame : List ℕ) (options : List Span) (now : ℕ) → candidate frame ≡ true → options_at ≤ length frame → length frame ≤ advertisement_limit → AreOptions frame options
    → (r : Advert) × (advert frame now ≡ Ok r)
unfolding advert
options-accepted frame options now is long short are =
    let there : nat_lt (length frame) options_at ≡ false = le-ltb (length frame) options_at long in
    let within : nat_lt advertisement_limit (length frame) ≡ false = le-ltb advertisement_limit (length frame) short in
    let read : lifetimes_in frame ≡ Ok (router ∷ flat_map (lifetimes_at frame) options) =
    read_all (candidate frame) (nat_lt (length frame) options_at) (nat_lt advertisement_limit (length frame)) (options_from 0 options_at (drop options_at frame)) (flat_map (lifetimes_at frame) options)
    is there within (walked frame options options_at (drop options_at frame) refl are.tile are.each) in
    (record { bytes = frame; lifetimes = router ∷ flat_map (lifetimes_at frame) options; seen = now }, ap (seen_at frame now) read)
  where
    read_all : (a b c : Bool) (read : Ranges) (found : List Span) → a ≡ true → b ≡ false → c ≡ false → read ≡ Ok found
        → cond a (cond b (Err Short) (cond c (Err TooLong) (with_lifetimes (router ∷ []) read))) (Err NotRa) ≡ Ok (router ∷ found)
    read_all a b c read found e f g h = rw (e, f, g, h) refl
