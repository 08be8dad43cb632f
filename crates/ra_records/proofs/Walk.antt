-- The walk over the options of a frame, an option at a time.
use Rattle.std.proofs.Common.{◌≡◌, ℕ, zero, suc, ◌+◌, ◌-◌, ◌*◌, ◌<◌, ◌≤◌, Bool, true, false, cond, eqb, List, [], ◌∷◌, ◌++◌, length, drop, Option, None, Some, Result, Ok, Err, refl, sym, ap, subst, ◌∙◌, arith, append_assoc, length-drop, ltb-false}
use Rattle.std.specs.Prelude.{◌&&◌, ◌||◌, ◌==◌, nat_lt, slice_index}
use Rattle.std.specs.List.{list_all}
use Rattle.std.proofs.lemmas.Bool.Decides.{nat_tests}
use Rattle.ra_records.specs.declared.span.Span.{Span}
use Rattle.ra_records.specs.declared.span.RaError.{RaError}
use Rattle.ra_records.specs.declared.span.RaError.TheVariants.{NotRa, Short, TooLong}
use Rattle.ra_records.specs.Masks.{span, IsRising}
use Rattle.ra_records.specs.Options.{lifetimes_of, size_of, option_refusal, with_lifetimes, unless_refused, options_from}
use Rattle.ra_records.specs.Advert.{router, candidate, lifetimes_in, is_number, IsSound, advertisement_limit, options_at}

abbrev Ranges : Type 0
Ranges = Result (List Span) RaError

-- ---- one option

skipped : (k at : ℕ) (bytes : List ℕ) → k ≤ length bytes → options_from k at bytes ≡ options_from 0 (at + k) (drop k bytes)
skipped zero at bytes h = ap (λ n. options_from 0 n bytes) (omega arith)
skipped (suc k) at [] h = absurd (omega arith)
skipped (suc k) at (byte ∷ bytes) h =
    let n : at + 1 + k ≡ at + suc k = omega arith in
    skipped k (at + 1) bytes (omega arith) ∙ ap (λ n. options_from 0 n (drop k bytes)) n

four : (a b c d : Bool) (e f g h : RaError) → cond a (Some e) (cond b (Some f) (cond c (Some g) (cond d (Some h) None))) ≡ None
    → (a ≡ false) × (b ≡ false) × (c ≡ false) × (d ≡ false)
four true b c d e f g h k = absurd cc
four false true c d e f g h k = absurd cc
four false false true d e f g h k = absurd cc
four false false false true e f g h k = absurd cc
four false false false false e f g h k = (refl, refl, refl, refl)

not_zero : (t : Bool) (n : ℕ) → eqb n 0 ≡ t → t ≡ false → 0 < n
not_zero true n e h = absurd cc
not_zero false n e h = grind (arith, nat_tests)

-- what holds of an option that isn't refused
pub record IsWhole (bytes : List ℕ) : Type 0 where
  pub head : 2 ≤ length bytes
  pub some : 8 ≤ size_of bytes
  pub fits : size_of bytes ≤ length bytes
  pub long : ((slice_index bytes 0 == 3) && nat_lt (size_of bytes) 16) ≡ false

pub whole : (at : ℕ) (bytes : List ℕ) → option_refusal at bytes ≡ None → IsWhole bytes
whole at bytes e =
    let tests = four (nat_lt (length bytes) 2) (slice_index bytes 1 == 0) (nat_lt (length bytes) (size_of bytes)) ((slice_index bytes 0 == 3) && nat_lt (size_of bytes) 16) _ _ _ _ e in
    let some : 0 < slice_index bytes 1 = not_zero (slice_index bytes 1 == 0) (slice_index bytes 1) refl tests.1 in
    record { head = ltb-false _ _ tests.0; some = omega arith; fits = ltb-false _ _ tests.2; long = tests.3 }

pub one_more : (at : ℕ) (bytes : List ℕ) → option_refusal at bytes ≡ None
    → options_from 0 at bytes ≡ with_lifetimes (lifetimes_of (slice_index bytes 0) at) (options_from 0 (at + size_of bytes) (drop (size_of bytes) bytes))
one_more at [] e = absurd cc
one_more at (byte ∷ bytes) e =
    let is = whole at (byte ∷ bytes) e in
    let k : ℕ = 8 * slice_index bytes 0 - 1 in
    let place : at + 1 + (8 * slice_index bytes 0 - 1) ≡ at + size_of (byte ∷ bytes) = omega (arith, is.some) in
    let count : suc (8 * slice_index bytes 0 - 1) ≡ size_of (byte ∷ bytes) = omega (arith, is.some) in
    let fit : 8 * slice_index bytes 0 - 1 ≤ length bytes = omega (arith, is.some, is.fits) in
    ap (λ o. unless_refused o (with_lifetimes (lifetimes_of byte at) (options_from (8 * slice_index bytes 0 - 1) (at + 1) bytes))) e
    ∙ ap (with_lifetimes (lifetimes_of byte at))
    (skipped (8 * slice_index bytes 0 - 1) (at + 1) bytes fit
    ∙ ap (λ n. options_from 0 n (drop (8 * slice_index bytes 0 - 1) bytes)) place
    ∙ ap (λ n. options_from 0 (at + size_of (byte ∷ bytes)) (drop n (byte ∷ bytes))) count)

pub stops : (at : ℕ) (bytes : List ℕ) (e : RaError) → (length bytes == 0) ≡ false → option_refusal at bytes ≡ Some e → options_from 0 at bytes ≡ Err e
stops at [] e h k = absurd cc
stops at (byte ∷ bytes) e h k = ap (λ o. unless_refused o (with_lifetimes (lifetimes_of byte at) (options_from (8 * slice_index bytes 0 - 1) (at + 1) bytes))) k

front_front : (xs ys : List Span) (found : Ranges) → with_lifetimes (xs ++ ys) found ≡ with_lifetimes xs (with_lifetimes ys found)
front_front xs ys (Ok found) = ap (λ zs. Ok zs) (append_assoc xs ys found)
front_front xs ys (Err e) = refl

-- a turn of the loop
pub goes_on : (list more : List Span) (at : ℕ) (bytes rest : List ℕ) (total : Ranges)
    → option_refusal at bytes ≡ None → more ≡ list ++ lifetimes_of (slice_index bytes 0) at → rest ≡ drop (size_of bytes) bytes
    → with_lifetimes list (options_from 0 at bytes) ≡ total → with_lifetimes more (options_from 0 (at + size_of bytes) rest) ≡ total
goes_on list more at bytes rest total e longer there sum =
    ap (λ zs. with_lifetimes zs (options_from 0 (at + size_of bytes) rest)) longer
    ∙ ap (λ zs. with_lifetimes (list ++ lifetimes_of (slice_index bytes 0) at) (options_from 0 (at + size_of bytes) zs)) there
    ∙ front_front list (lifetimes_of (slice_index bytes 0) at) (options_from 0 (at + size_of bytes) (drop (size_of bytes) bytes))
    ∙ sym (ap (with_lifetimes list) (one_more at bytes e))
    ∙ sum

-- ---- the ranges rise, and are numbers of two or of four bytes

pub record IsGood (from end : ℕ) (found : List Span) : Type 0 where
  pub rising : IsRising from found end
  pub numbers : list_all is_number found ≡ true

none_of : (a b : Bool) → (a && b) ≡ false → a ≡ true → b ≡ false
none_of true b h e = h
none_of false b h e = absurd cc

pub rise_more : (from to : ℕ) (ms : List Span) (end : ℕ) → from ≤ to → IsRising to ms end → IsRising from ms end
rise_more from to [] end le h = omega arith
rise_more from to (m ∷ ms) end le h = (omega (arith, h.0), h.1)

in_front : (t u : Bool) (at size end : ℕ) (more : List Span) → 8 ≤ size → (t ≡ true → 16 ≤ size) → IsGood (at + size) end more
    → IsGood at end ((cond t (span (at + 4) 4 ∷ span (at + 8) 4 ∷ []) (cond u (span (at + 4) 4 ∷ []) [])) ++ more)
in_front true u at size end more some long h =
    record { rising = (omega arith, (omega arith, rise_more (at + 8 + 4) (at + size) more end (let l : 16 ≤ size = long refl in omega arith) h.rising)); numbers = h.numbers }
in_front false true at size end more some long h =
    record { rising = (omega arith, rise_more (at + 4 + 4) (at + size) more end (omega arith) h.rising); numbers = h.numbers }
in_front false false at size end more some long h =
    record { rising = rise_more at (at + size) more end (omega arith) h.rising; numbers = h.numbers }

good_cases : (o : Option RaError) (read : Ranges) (kind at size end : ℕ) (found : List Span)
    → (o ≡ None → (8 ≤ size) × ((kind == 3) && nat_lt size 16 ≡ false))
    → (o ≡ None → (more : List Span) → read ≡ Ok more → IsGood (at + size) end more)
    → unless_refused o (with_lifetimes (lifetimes_of kind at) read) ≡ Ok found → IsGood at end found
good_cases (Some e) read kind at size end found is more h = absurd cc
good_cases None (Err e) kind at size end found is more h = absurd cc
good_cases None (Ok later) kind at size end found is more h =
    let ok = is refl in
    let e : lifetimes_of kind at ++ later ≡ found = cc in
    subst (IsGood at end) e
    (in_front (kind == 3) ((kind == 24) || (kind == 25) || (kind == 31)) at size end later ok.0
    (λ t. ltb-false _ _ (none_of (kind == 3) (nat_lt size 16) ok.1 t)) (more refl later refl))

pub good : (skip at : ℕ) (bytes : List ℕ) (found : List Span) → skip ≤ length bytes → options_from skip at bytes ≡ Ok found → IsGood (at + skip) (at + length bytes) found
good skip at [] found le h =
    let e : [] ≡ found = cc in
    subst (IsGood (at + skip) (at + 0)) e (record { rising = omega arith; numbers = refl })
good (suc skip) at (byte ∷ bytes) found le h =
    let e : at + 1 + skip ≡ at + suc skip = omega arith in
    let f : at + 1 + length bytes ≡ at + length (byte ∷ bytes) = omega arith in
    subst (λ n. IsGood n (at + length (byte ∷ bytes)) found) e (subst (λ n. IsGood (at + 1 + skip) n found) f (good skip (at + 1) bytes found (omega arith) h))
good zero at (byte ∷ bytes) found le h =
    let s : at + 0 ≡ at = omega arith in
    subst (λ n. IsGood n (at + length (byte ∷ bytes)) found) (sym s)
    (good_cases (option_refusal at (byte ∷ bytes)) (options_from (8 * slice_index bytes 0 - 1) (at + 1) bytes) byte at (size_of (byte ∷ bytes)) (at + length (byte ∷ bytes)) found
    (λ none. let is = whole at (byte ∷ bytes) none in (is.some, is.long))
    (λ none more read.
    let is = whole at (byte ∷ bytes) none in
    let e : at + 1 + (8 * slice_index bytes 0 - 1) ≡ at + size_of (byte ∷ bytes) = omega (arith, is.some) in
    let f : at + 1 + length bytes ≡ at + length (byte ∷ bytes) = omega arith in
    subst (λ n. IsGood n (at + length (byte ∷ bytes)) more) e
    (subst (λ n. IsGood (at + 1 + (8 * slice_index bytes 0 - 1)) n more) f
    (good (8 * slice_index bytes 0 - 1) (at + 1) bytes more (omega (arith, is.some, is.fits)) read)))
    h)

pub front_ok : (front found : List Span) (read : Ranges) → with_lifetimes front read ≡ Ok found → (more : List Span) × (read ≡ Ok more) × (front ++ more ≡ found)
front_ok front found (Ok more) h = (more, refl, cc)
front_ok front found (Err e) h = absurd cc

sound_cases : (a b c : Bool) (frame : List ℕ) (found : List Span) → nat_lt (length frame) options_at ≡ b → nat_lt advertisement_limit (length frame) ≡ c
    → cond a (cond b (Err Short) (cond c (Err TooLong) (with_lifetimes (router ∷ []) (options_from 0 options_at (drop options_at frame))))) (Err NotRa) ≡ Ok found → IsSound frame found
sound_cases false b c frame found e f h = absurd cc
sound_cases true true c frame found e f h = absurd cc
sound_cases true false true frame found e f h = absurd cc
sound_cases true false false frame found e f h =
    let long : options_at ≤ length frame = ltb-false _ _ e in
    let short : length frame ≤ advertisement_limit = ltb-false _ _ f in
    let more = front_ok (router ∷ []) found (options_from 0 options_at (drop options_at frame)) h in
    let size : options_at + length (drop options_at frame) ≡ length frame = omega (arith, length-drop options_at frame) in
    let ok = subst (λ n. IsGood options_at n more.0) size (good 0 options_at (drop options_at frame) more.0 (omega arith) more.1) in
    subst (IsSound frame) more.2
    (record { rising = (omega arith, rise_more 62 options_at more.0 (length frame) (omega arith) ok.rising); numbers = ok.numbers; long = long; short = short })

pub sound : (frame : List ℕ) (found : List Span) → lifetimes_in frame ≡ Ok found → IsSound frame found
sound frame found h = sound_cases (candidate frame) (nat_lt (length frame) options_at) (nat_lt advertisement_limit (length frame)) frame found refl refl h
