-- A frame that is the same has the same options, with the same lifetimes.
use Rattle.std.proofs.Common.{◌≡◌, ℕ, zero, suc, ◌+◌, ◌-◌, ◌*◌, ◌≤◌, Bool, true, false, cond, List, [], ◌∷◌, ◌++◌, length, take, drop, get_or, Option, None, Some, Result, Ok, Err, refl, sym, ap, subst, ◌∙◌, arith, eqb-true, drop-drop, ltb-false, lit≤, length-drop}
use Rattle.std.specs.Prelude.{◌&&◌, ◌||◌, ◌==◌, nat_lt, slice_index, slice_range, bytes_eq}
use Rattle.std.specs.List.{list_all}
use Rattle.std.proofs.lemmas.Slice.Eq.{bytes_eq-Decides}
use Rattle.std.proofs.lemmas.Bool.{and_parts}
use Rattle.frame_views.specs.Fields.{bytes_value, field}
use Rattle.ra_records.specs.declared.span.Span.{Span}
use Rattle.ra_records.specs.declared.span.RaError.{RaError}
use Rattle.ra_records.specs.declared.span.RaError.TheVariants.{NotRa, Short, TooLong, CutOption, ZeroOption, ShortOption}
use Rattle.ra_records.specs.Masks.{span, lies_in, is_masked, same_outside, between, is_equal, IsRising}
use Rattle.ra_records.specs.Options.{lifetimes_of, size_of, option_refusal, with_lifetimes, unless_refused, options_from}
use Rattle.ra_records.specs.Advert.{router, holds, candidate, lifetimes_in, masks, is_same, IsSound, advertisement_limit, options_at}
use Rattle.ra_records.proofs.Sections.{before, above, same-sections}
use Rattle.ra_records.proofs.Rising.{masks_rise}
use Rattle.ra_records.proofs.Walk.{whole, rise_more, good, sound}

or_right : (a b : Bool) → a ≡ false → (a || b) ≡ true → b ≡ true
or_right true b e h = absurd cc
or_right false b e h = h

-- at a place that isn't masked
pub same_at : (all : List Span) (k at : ℕ) (xs ys : List ℕ) → length xs ≡ length ys → same_outside all at xs ys ≡ true → is_masked (at + k) all ≡ false → get_or xs k 0 ≡ get_or ys k 0
same_at all k at [] [] l e h = refl
same_at all k at [] (y ∷ ys) l e h = absurd (omega arith)
same_at all k at (x ∷ xs) [] l e h = absurd (omega arith)
same_at all zero at (x ∷ xs) (y ∷ ys) l e h =
    let here : at + 0 ≡ at = omega arith in
    let parts = and_parts (is_masked at all || (x == y)) (same_outside all (at + 1) xs ys) e in
    eqb-true x y (or_right (is_masked at all) (x == y) (subst (λ (i : ℕ). is_masked i all ≡ false) here h) parts.0)
same_at all (suc k) at (x ∷ xs) (y ∷ ys) l e h =
    let there : at + suc k ≡ at + 1 + k = omega arith in
    let parts = and_parts (is_masked at all || (x == y)) (same_outside all (at + 1) xs ys) e in
    same_at all k (at + 1) xs ys (omega arith) parts.1 (subst (λ (i : ℕ). is_masked i all ≡ false) there h)

-- a refusal rests on the length and on two bytes
abbrev refusal_of : ℕ → ℕ → ℕ → ℕ → Option RaError
refusal_of at len kind units =
    cond (nat_lt len 2) (Some (CutOption at)) (cond (units == 0) (Some (ZeroOption at)) (cond (nat_lt len (8 * units)) (Some (CutOption at)) (cond ((kind == 3) && nat_lt (8 * units) 16) (Some (ShortOption at)) None)))

refusal-is : (at : ℕ) (bytes : List ℕ) → option_refusal at bytes ≡ refusal_of at (length bytes) (get_or bytes 0 0) (get_or bytes 1 0)
refusal-is at bytes = refl

parts_of : (o : Option RaError) (front found : List Span) (read : Result (List Span) RaError) → unless_refused o (with_lifetimes front read) ≡ Ok found → (o ≡ None) × ((more : List Span) × ((read ≡ Ok more) × (front ++ more ≡ found)))
parts_of (Some e) front found read h = absurd cc
parts_of None front found (Err e) h = absurd cc
parts_of None front found (Ok more) h = (refl, (more, (refl, cc)))

-- the lifetimes of an option stand behind its first four bytes
later : (t u : Bool) (at size end : ℕ) (more : List Span) → 8 ≤ size → (t ≡ true → 16 ≤ size) → IsRising (at + size) more end
    → IsRising (at + 4) ((cond t (span (at + 4) 4 ∷ span (at + 8) 4 ∷ []) (cond u (span (at + 4) 4 ∷ []) [])) ++ more) end
later true u at size end more some long h = (omega arith, (omega arith, rise_more (at + 8 + 4) (at + size) more end (let l : 16 ≤ size = long refl in omega arith) h))
later false true at size end more some long h = (omega arith, rise_more (at + 4 + 4) (at + size) more end (omega arith) h)
later false false at size end more some long h = rise_more (at + 4) (at + size) more end (omega arith) h

-- and before its end
earlier : (t u : Bool) (at size i : ℕ) (more : List Span) → 8 ≤ size → (t ≡ true → 16 ≤ size) → at + size ≤ i
    → is_masked i ((cond t (span (at + 4) 4 ∷ span (at + 8) 4 ∷ []) (cond u (span (at + 4) 4 ∷ []) [])) ++ more) ≡ is_masked i more
earlier true u at size i more some long le =
    let l : 16 ≤ size = long refl in
    ap (λ (b : Bool). b || (lies_in i (span (at + 8) 4) || is_masked i more)) (above (span (at + 4) 4) i (omega arith))
    ∙ ap (λ (b : Bool). b || is_masked i more) (above (span (at + 8) 4) i (omega arith))
earlier false true at size i more some long le = ap (λ (b : Bool). b || is_masked i more) (above (span (at + 4) 4) i (omega arith))
earlier false false at size i more some long le = refl

long_of : (a b : Bool) → (a && b) ≡ false → a ≡ true → b ≡ false
long_of true b h e = h
long_of false b h e = absurd cc

not_short : (size : ℕ) (t : Bool) → nat_lt size 16 ≡ t → t ≡ false → 16 ≤ size
not_short size t e h = ltb-false size 16 (e ∙ h)

options_kept : (all : List Span) (skip at : ℕ) (xs ys : List ℕ) (found : List Span) → length xs ≡ length ys → same_outside all at xs ys ≡ true
    → ((i : ℕ) → at + skip ≤ i → is_masked i all ≡ is_masked i found) → skip ≤ length ys → options_from skip at ys ≡ Ok found → options_from skip at xs ≡ Ok found
options_kept all skip at [] [] found l e h le r = r
options_kept all skip at [] (y ∷ ys) found l e h le r = absurd (omega arith)
options_kept all skip at (x ∷ xs) [] found l e h le r = absurd (omega arith)
options_kept all (suc skip) at (x ∷ xs) (y ∷ ys) found l e h le r =
    let parts = and_parts (is_masked at all || (x == y)) (same_outside all (at + 1) xs ys) e in
    options_kept all skip (at + 1) xs ys found (omega arith) parts.1 (λ i low. h i (omega arith)) (omega arith) r
options_kept all zero at (x ∷ xs) (y ∷ ys) found l e h le r =
    let parts = and_parts (is_masked at all || (x == y)) (same_outside all (at + 1) xs ys) e in
    let units : ℕ = slice_index ys 0 in
    let split = parts_of (option_refusal at (y ∷ ys)) (lifetimes_of y at) found (options_from (8 * slice_index ys 0 - 1) (at + 1) ys) r in
    let more = split.1.0 in
    let is = whole at (y ∷ ys) split.0 in
    let size : ℕ = size_of (y ∷ ys) in
    let long = (λ (t : (y == 3) ≡ true). not_short (size_of (y ∷ ys)) (nat_lt (size_of (y ∷ ys)) 16) refl (long_of (y == 3) (nat_lt (size_of (y ∷ ys)) 16) is.long t)) in
    let end : ℕ = at + length (y ∷ ys) in
    let e1 : at + 1 + (8 * slice_index ys 0 - 1) ≡ at + size_of (y ∷ ys) = omega (arith, is.some) in
    let rising = subst (λ n. IsRising n split.1.0 (at + 1 + length ys)) e1 (good (8 * slice_index ys 0 - 1) (at + 1) ys split.1.0 (omega (arith, is.some, is.fits)) split.1.1.0).rising in
    let stands = subst (λ (f : List Span). IsRising (at + 4) f (at + 1 + length ys)) split.1.1.1 (later (y == 3) ((y == 24) || (y == 25) || (y == 31)) at (size_of (y ∷ ys)) (at + 1 + length ys) split.1.0 is.some long rising) in
    let first = same_at all 0 at (x ∷ xs) (y ∷ ys) l e (h (at + 0) (omega arith) ∙ before found (at + 4) (at + 1 + length ys) (at + 0) stands (omega arith)) in
    let second = same_at all 1 at (x ∷ xs) (y ∷ ys) l e (h (at + 1) (omega arith) ∙ before found (at + 4) (at + 1 + length ys) (at + 1) stands (omega arith)) in
    let none : option_refusal at (x ∷ xs) ≡ None =
    ap (λ (n : ℕ). refusal_of at n x (slice_index xs 0)) l ∙ ap (λ (n : ℕ). refusal_of at (length (y ∷ ys)) n (slice_index xs 0)) first
    ∙ ap (λ (n : ℕ). refusal_of at (length (y ∷ ys)) y n) second ∙ split.0 in
    let rest = options_kept all (8 * slice_index ys 0 - 1) (at + 1) xs ys split.1.0 (omega arith) parts.1
    (λ i low. h i (omega arith) ∙ ap (is_masked i) (sym split.1.1.1) ∙ earlier (y == 3) ((y == 24) || (y == 25) || (y == 31)) at (size_of (y ∷ ys)) i split.1.0 is.some long (omega (arith, e1)))
    (omega (arith, is.some, is.fits)) split.1.1.0 in
    ap (λ (o : Option RaError). unless_refused o (with_lifetimes (lifetimes_of x at) (options_from (8 * slice_index xs 0 - 1) (at + 1) xs))) none
    ∙ ap (λ (k : ℕ). with_lifetimes (lifetimes_of k at) (options_from (8 * slice_index xs 0 - 1) (at + 1) xs)) first
    ∙ ap (λ (n : ℕ). with_lifetimes (lifetimes_of y at) (options_from (8 * n - 1) (at + 1) xs)) second
    ∙ ap (with_lifetimes (lifetimes_of y at)) rest
    ∙ ap (λ (f : List Span). Ok f) split.1.1.1

-- ---- the fields that make an advertisement

same_drop : (all : List Span) (k at : ℕ) (xs ys : List ℕ) → same_outside all at xs ys ≡ true → length xs ≡ length ys → same_outside all (at + k) (drop k xs) (drop k ys) ≡ true
same_drop all zero at xs ys e l = let n : at ≡ at + 0 = omega arith in subst (λ (i : ℕ). same_outside all i xs ys ≡ true) n e
same_drop all (suc k) at [] ys e l = refl
same_drop all (suc k) at (x ∷ xs) [] e l = absurd (omega arith)
same_drop all (suc k) at (x ∷ xs) (y ∷ ys) e l =
    let n : at + 1 + k ≡ at + suc k = omega arith in
    let parts = and_parts (is_masked at all || (x == y)) (same_outside all (at + 1) xs ys) e in
    subst (λ (i : ℕ). same_outside all i (drop k xs) (drop k ys) ≡ true) n (same_drop all k (at + 1) xs ys parts.1 (omega arith))

part_of : (n i k : ℕ) (xs : List ℕ) → i + k ≤ n → take k (drop i (take n xs)) ≡ take k (drop i xs)
part_of n zero zero xs le = refl
part_of zero zero (suc k) xs le = absurd (omega arith)
part_of (suc n) zero (suc k) [] le = refl
part_of (suc n) zero (suc k) (x ∷ xs) le = ap (λ zs. x ∷ zs) (part_of n zero k xs (omega arith))
part_of zero (suc i) k xs le = absurd (omega arith)
part_of (suc n) (suc i) k [] le = refl
part_of (suc n) (suc i) k (x ∷ xs) le = part_of n i k xs (omega arith)

cut : (F B : List ℕ) (from n i k : ℕ) → take n (drop from F) ≡ take n (drop from B) → i + k ≤ n → take k (drop (from + i) F) ≡ take k (drop (from + i) B)
cut F B from n i k e le =
    sym (ap (take k) (drop-drop i from F)) ∙ sym (part_of n i k (drop from F) le)
    ∙ ap (λ zs. take k (drop i zs)) e
    ∙ part_of n i k (drop from B) le ∙ ap (take k) (drop-drop i from B)

fields_kept : (F B : List ℕ) (at width : ℕ) → length F ≡ length B → take width (drop at F) ≡ take width (drop at B) → field F at width ≡ field B at width
unfolding field
fields_kept F B at width l e =
    let k : at + width - at ≡ width = omega arith in
    ap (λ (n : ℕ). cond (nat_lt n (at + width)) None (Some (bytes_value (take (at + width - at) (drop at F))))) l
    ∙ ap (λ (w : ℕ). cond (nat_lt (length B) (at + width)) None (Some (bytes_value (take w (drop at F))))) k
    ∙ ap (λ (zs : List ℕ). cond (nat_lt (length B) (at + width)) None (Some (bytes_value zs))) e
    ∙ ap (λ (w : ℕ). cond (nat_lt (length B) (at + width)) None (Some (bytes_value (take w (drop at B))))) (sym k)

equal_bytes : (xs ys : List ℕ) → bytes_eq xs ys ≡ true → xs ≡ ys
equal_bytes xs ys e = (bytes_eq-Decides xs ys).0 e

candidate_kept : (bytes frame : List ℕ) (lifetimes : List Span) → IsSound bytes lifetimes → length frame ≡ length bytes → same_outside (masks lifetimes) 0 frame bytes ≡ true → candidate frame ≡ candidate bytes
candidate_kept bytes frame lifetimes h l e =
    let all = sym (same-sections (masks lifetimes) frame bytes l (masks_rise bytes lifetimes h)) ∙ e in
    let one = and_parts (is_equal frame bytes (span 0 15)) (list_all (is_equal frame bytes) (span 18 38 ∷ between 58 lifetimes (length bytes))) all in
    let two = and_parts (is_equal frame bytes (span 18 38)) (list_all (is_equal frame bytes) (between 58 lifetimes (length bytes))) one.1 in
    let front = equal_bytes (slice_range frame 0 15) (slice_range bytes 0 15) one.0 in
    let back = equal_bytes (slice_range frame 18 56) (slice_range bytes 18 56) two.0 in
    let type_of = fields_kept frame bytes 12 2 l (cut frame bytes 0 15 12 2 front (lit≤ tt)) in
    let next = fields_kept frame bytes 20 1 l (cut frame bytes 18 38 2 1 back (lit≤ tt)) in
    let kind = fields_kept frame bytes 54 1 l (cut frame bytes 18 38 36 1 back (lit≤ tt)) in
    ap (λ (o : Option ℕ). holds o 0x86dd && (holds (field frame 20 1) 58 && holds (field frame 54 1) 134)) type_of
    ∙ ap (λ (o : Option ℕ). holds (field bytes 12 2) 0x86dd && (holds o 58 && holds (field frame 54 1) 134)) next
    ∙ ap (λ (o : Option ℕ). holds (field bytes 12 2) 0x86dd && (holds (field bytes 20 1) 58 && holds o 134)) kind

abbrev Read : Type 0
Read = Result (List Span) RaError

kept_cases : (a b c : Bool) (read other : Read) (found : List Span) → ((more : List Span) → read ≡ Ok more → router ∷ more ≡ found → other ≡ Ok more)
    → cond a (cond b (Err Short) (cond c (Err TooLong) (with_lifetimes (router ∷ []) read))) (Err NotRa) ≡ Ok found
    → cond a (cond b (Err Short) (cond c (Err TooLong) (with_lifetimes (router ∷ []) other))) (Err NotRa) ≡ Ok found
kept_cases false b c read other found more h = absurd cc
kept_cases true true c read other found more h = absurd cc
kept_cases true false true read other found more h = absurd cc
kept_cases true false false (Err e) other found more h = absurd cc
kept_cases true false false (Ok ls) other found more h =
    let e : router ∷ ls ≡ found = cc in
    ap (with_lifetimes (router ∷ [])) (more ls refl e) ∙ ap (λ (f : List Span). Ok f) e

behind_masks : (i : ℕ) (more : List Span) → options_at ≤ i → is_masked i (masks (router ∷ more)) ≡ is_masked i more
behind_masks i more le =
    ap (λ (b : Bool). b || (lies_in i (span 56 2) || (lies_in i router || is_masked i more))) (above (span 15 3) i (omega arith))
    ∙ ap (λ (b : Bool). b || (lies_in i router || is_masked i more)) (above (span 56 2) i (omega arith))
    ∙ ap (λ (b : Bool). b || is_masked i more) (above router i (omega arith))

pub lifetimes_kept : (bytes frame : List ℕ) (lifetimes : List Span) → lifetimes_in bytes ≡ Ok lifetimes → is_same bytes lifetimes frame ≡ true → lifetimes_in frame ≡ Ok lifetimes
lifetimes_kept bytes frame lifetimes r e =
    let h = sound bytes lifetimes r in
    let parts = and_parts (length frame == length bytes) (same_outside (masks lifetimes) 0 frame bytes) e in
    let l : length frame ≡ length bytes = eqb-true (length frame) (length bytes) parts.0 in
    let sizes : length (drop options_at frame) ≡ length (drop options_at bytes) = omega (arith, length-drop options_at frame, length-drop options_at bytes) in
    ap (λ (a : Bool). cond a (cond (nat_lt (length frame) options_at) (Err Short) (cond (nat_lt advertisement_limit (length frame)) (Err TooLong) (with_lifetimes (router ∷ []) (options_from 0 options_at (drop options_at frame))))) (Err NotRa))
    (candidate_kept bytes frame lifetimes h l parts.1)
    ∙ ap (λ (n : ℕ). cond (candidate bytes) (cond (nat_lt n options_at) (Err Short) (cond (nat_lt advertisement_limit n) (Err TooLong) (with_lifetimes (router ∷ []) (options_from 0 options_at (drop options_at frame))))) (Err NotRa)) l
    ∙ kept_cases (candidate bytes) (nat_lt (length bytes) options_at) (nat_lt advertisement_limit (length bytes)) (options_from 0 options_at (drop options_at bytes)) (options_from 0 options_at (drop options_at frame)) lifetimes
    (λ more read whole.
    options_kept (masks lifetimes) 0 options_at (drop options_at frame) (drop options_at bytes) more sizes (same_drop (masks lifetimes) options_at 0 frame bytes parts.1 l)
    (λ i le. ap (λ (ls : List Span). is_masked i (masks ls)) (sym whole) ∙ behind_masks i more (omega arith)) (omega arith) read)
    r
