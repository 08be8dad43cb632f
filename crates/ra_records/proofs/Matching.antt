-- A frame is the same exactly where all sections are equal.
use Rattle.std.proofs.Common.{◌≡◌, ℕ, Bool, true, false, eqb, List, ◌++◌, length, take, drop, take_at, refl, sym, ap, subst, ◌∙◌, All, Result, Ok, Err, eq-eqb, ne_eqb, eqb-true}
use Rattle.std.specs.Prelude.{◌≢◌, ◌&&◌}
use Rattle.std.specs.List.{list_all}
use Rattle.ra_records.specs.declared.span.Span.{Span}
use Rattle.ra_records.specs.declared.span.RaError.{RaError}
use Rattle.ra_records.specs.declared.span.RaError.TheVariants.{OutOfMemory}
use Rattle.ra_records.specs.Masks.{IsSpanWithin, IsNumber, is_equal, between, same_outside}
use Rattle.ra_records.specs.Advert.{Advert, masks, sections_of, is_same, same, IsSound, IsHeld, lifetimes_in, advert, seen_at, least_in}
use Rattle.ra_records.proofs.Sections.{same-sections}
use Rattle.ra_records.proofs.Rising.{sections_within, masks_rise, lifetimes_are_numbers}
use Rattle.ra_records.proofs.Walk.{sound}
use Rattle.ra_records.proofs.Kept.{lifetimes_kept}

pub within_of : (bytes b : List ℕ) (lifetimes ss s : List Span) → IsSound bytes lifetimes → ss ≡ sections_of bytes lifetimes → b ≡ bytes → s ≡ ss → All (IsSpanWithin (length b)) s
within_of bytes b lifetimes ss s h e f g = rw (f, g, e) (sections_within bytes lifetimes h)

pub numbers_of : (bytes : List ℕ) (lifetimes s : List Span) → IsSound bytes lifetimes → s ≡ lifetimes → All (IsNumber (length bytes)) s
numbers_of bytes lifetimes s h e = rw e (lifetimes_are_numbers bytes lifetimes h)

by_sections : (bytes frame : List ℕ) (lifetimes : List Span) → IsSound bytes lifetimes → length frame ≡ length bytes → list_all (is_equal frame bytes) (sections_of bytes lifetimes) ≡ is_same bytes lifetimes frame
by_sections bytes frame lifetimes h e =
    sym (ap (λ (b : Bool). b && same_outside (masks lifetimes) 0 frame bytes) (eq-eqb (length frame) (length bytes) e)
    ∙ same-sections (masks lifetimes) frame bytes e (masks_rise bytes lifetimes h))

-- by the sections, given equal length
pub same_of : (r : Advert) (bytes b frame : List ℕ) (lifetimes ss s : List Span) (result : Bool) → r.bytes ≡ bytes → r.lifetimes ≡ lifetimes → IsSound bytes lifetimes → ss ≡ sections_of bytes lifetimes
    → length frame ≡ length bytes → b ≡ bytes → s ≡ ss → result ≡ list_all (is_equal frame b) s → result ≡ same r frame
unfolding same
same_of r bytes b frame lifetimes ss s result rb rl h e long f g is =
    let there : list_all (is_equal frame b) s ≡ list_all (is_equal frame bytes) (sections_of bytes lifetimes) = rw (f, g, e) refl in
    let last : is_same bytes lifetimes frame ≡ is_same r.bytes r.lifetimes frame = rw (rb, rl) refl in
    is ∙ there ∙ by_sections bytes frame lifetimes h long ∙ last

pub other_length : (r : Advert) (bytes frame : List ℕ) (n : ℕ) → r.bytes ≡ bytes → n ≡ length bytes → (length frame ≡ n → ⊥) → eqb (length frame) n ≡ same r frame
unfolding same
other_length r bytes frame n rb e differs =
    let long : n ≡ length r.bytes = e ∙ ap length (sym rb) in
    let other : eqb (length frame) n ≡ false = ne_eqb (length frame) n differs in
    go (eqb (length frame) n) (same_outside (masks r.lifetimes) 0 frame r.bytes) other ∙ ap (λ (k : ℕ). eqb (length frame) k && same_outside (masks r.lifetimes) 0 frame r.bytes) long
  where
    go : (t b : Bool) → t ≡ false → t ≡ t && b
    go true b e = absurd cc
    go false b e = refl

-- ---- what is read

-- a refusal, in place of ranges and of a record
abbrev err_of : RaError → Result (List Span) RaError
err_of e = Err e

abbrev advert_err : RaError → Result Advert RaError
advert_err e = Err e

-- lifetimes that were found are those of the definition
pub found : (frame : List ℕ) (lifetimes : List Span) → (Ok lifetimes ≢ Err OutOfMemory → Ok lifetimes ≡ lifetimes_in frame) → lifetimes_in frame ≡ Ok lifetimes
found frame lifetimes h = sym (h (λ e. absurd cc))

pub seen_ok : (frame bytes : List ℕ) (now : ℕ) (lifetimes : List Span) → lifetimes_in frame ≡ Ok lifetimes → bytes ≡ frame → Ok (record { bytes = bytes; lifetimes = lifetimes; seen = now }) ≡ advert frame now
unfolding advert
seen_ok frame bytes now lifetimes e f = ap (λ (bytes : List ℕ). Ok (record { bytes = bytes; lifetimes = lifetimes; seen = now })) f ∙ sym (ap (seen_at frame now) e)

pub seen_err : (frame : List ℕ) (now : ℕ) (e : RaError) → (err_of e ≢ Err OutOfMemory → err_of e ≡ lifetimes_in frame) → advert_err e ≢ Err OutOfMemory → advert_err e ≡ advert frame now
unfolding advert
seen_err frame now e h k = ap (seen_at frame now) (h (λ same. k (let x : e ≡ OutOfMemory = cc in ap (λ (e : RaError). Err e) x)))

read_cases : (frame : List ℕ) (now : ℕ) (r : Advert) (read : Result (List Span) RaError) → seen_at frame now read ≡ Ok r
    → (lifetimes : List Span) × (read ≡ Ok lifetimes) × (record { bytes = frame; lifetimes = lifetimes; seen = now } ≡ r)
read_cases frame now r (Ok lifetimes) e = (lifetimes, refl, cc)
read_cases frame now r (Err refusal) e = absurd cc

-- an accepted frame has lifetimes, and its record is made of them
pub read_from : (frame : List ℕ) (now : ℕ) (r : Advert) → advert frame now ≡ Ok r
    → (lifetimes : List Span) × (lifetimes_in frame ≡ Ok lifetimes) × (record { bytes = frame; lifetimes = lifetimes; seen = now } ≡ r)
unfolding advert
read_from frame now r e = read_cases frame now r (lifetimes_in frame) e

pub held : (frame bytes : List ℕ) (lifetimes ss : List Span) (least : ℕ) → lifetimes_in frame ≡ Ok lifetimes → bytes ≡ frame → ss ≡ sections_of frame lifetimes → least ≡ least_in frame lifetimes → IsHeld bytes lifetimes ss least
held frame bytes lifetimes ss least e f g h = rw f (record { read = e; sound = sound frame lifetimes e; sections = g; least = h })

-- ---- the same frame again

both_true : (a b : Bool) → (a && b) ≡ true → a ≡ true
both_true true b e = refl
both_true false b e = absurd cc

pub same_long : (r : Advert) (frame : List ℕ) → same r frame ≡ true → length frame ≡ length r.bytes
unfolding same
same_long r frame e = eqb-true (length frame) (length r.bytes) (both_true (eqb (length frame) (length r.bytes)) (same_outside (masks r.lifetimes) 0 frame r.bytes) e)

pub numbers_in : (bytes frame : List ℕ) (lifetimes s : List Span) → IsSound bytes lifetimes → length frame ≡ length bytes → s ≡ lifetimes → All (IsNumber (length frame)) s
numbers_in bytes frame lifetimes s h long e = rw long (numbers_of bytes lifetimes s h e)

pub held_again : (r : Advert) (old frame new : List ℕ) (lifetimes ss : List Span) (least : ℕ) → r.bytes ≡ old → r.lifetimes ≡ lifetimes → lifetimes_in old ≡ Ok lifetimes → ss ≡ sections_of old lifetimes
    → same r frame ≡ true → new ≡ frame → least ≡ least_in frame lifetimes → IsHeld new lifetimes ss least
unfolding same
held_again r old frame new lifetimes ss least rb rl e f is n g =
    let same_old : is_same old lifetimes frame ≡ true = subst (λ (b : List ℕ). is_same b lifetimes frame ≡ true) rb (subst (λ (ls : List Span). is_same r.bytes ls frame ≡ true) rl is) in
    let again = lifetimes_kept old frame lifetimes e same_old in
    let long : length frame ≡ length old = same_long r frame is ∙ ap length rb in
    rw n (record { read = again; sound = sound frame lifetimes again; sections = f ∙ ap (λ (k : ℕ). between 0 (masks lifetimes) k) (sym long); least = g })

-- a slice that was written over whole
pub written : (old new frame : List ℕ) → new ≡ frame → length frame ≡ length old → take (length old) (new ++ drop (length new) old) ≡ frame
written old new frame e long =
    ap (λ (xs : List ℕ). take (length old) (xs ++ drop (length xs) old)) e ∙ take_at frame (drop (length frame) old) (length old) long

pub read_of : (r : Advert) (bytes : List ℕ) (lifetimes : List Span) → r.bytes ≡ bytes → r.lifetimes ≡ lifetimes → lifetimes_in bytes ≡ Ok lifetimes → advert r.bytes r.seen ≡ Ok r
unfolding advert
read_of r bytes lifetimes rb rl e =
    let again : lifetimes_in r.bytes ≡ Ok r.lifetimes = ap lifetimes_in rb ∙ e ∙ ap (λ (ls : List Span). Ok ls) (sym rl) in
    ap (seen_at r.bytes r.seen) again

pub read_again : (r : Advert) (old frame new : List ℕ) (lifetimes : List Span) (now : ℕ) → r.bytes ≡ old → r.lifetimes ≡ lifetimes → lifetimes_in old ≡ Ok lifetimes → same r frame ≡ true → new ≡ frame
    → advert frame now ≡ Ok (record { bytes = new; lifetimes = lifetimes; seen = now })
unfolding same advert
read_again r old frame new lifetimes now rb rl e is n =
    let same_old : is_same old lifetimes frame ≡ true = subst (λ (b : List ℕ). is_same b lifetimes frame ≡ true) rb (subst (λ (ls : List Span). is_same r.bytes ls frame ≡ true) rl is) in
    ap (seen_at frame now) (lifetimes_kept old frame lifetimes e same_old) ∙ ap (λ (bytes : List ℕ). Ok (record { bytes = bytes; lifetimes = lifetimes; seen = now })) (sym n)
