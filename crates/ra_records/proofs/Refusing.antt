-- The grammar's refusals: want of memory is none of them.
use Rattle.std.proofs.Common.{◌≡◌, ℕ, zero, suc, ◌+◌, ◌*◌, ◌-◌, Bool, true, false, cond, List, [], ◌∷◌, length, drop, Option, None, Some, Result, Ok, Err, ap}
use Rattle.std.specs.Prelude.{◌≢◌, ◌==◌, ◌&&◌, nat_lt, slice_index}
use Rattle.ra_records.specs.declared.span.Span.{Span}
use Rattle.ra_records.specs.declared.span.RaError.{RaError}
use Rattle.ra_records.specs.declared.span.RaError.TheVariants.{NotRa, Short, TooLong, CutOption, ZeroOption, ShortOption, OutOfMemory}
use Rattle.ra_records.specs.Options.{lifetimes_of, size_of, option_refusal, with_lifetimes, unless_refused, options_from}
use Rattle.ra_records.specs.Advert.{router, candidate, lifetimes_in, seen_at, advert, advertisement_limit, options_at}

abbrev Ranges : Type 0
Ranges = Result (List Span) RaError

of_an_option : (a b c d : Bool) (at : ℕ) → cond a (Some (CutOption at)) (cond b (Some (ZeroOption at)) (cond c (Some (CutOption at)) (cond d (Some (ShortOption at)) None))) ≢ Some OutOfMemory
of_an_option true b c d at h = absurd cc
of_an_option false true c d at h = absurd cc
of_an_option false false true d at h = absurd cc
of_an_option false false false true at h = absurd cc
of_an_option false false false false at h = absurd cc

behind_one : (o : Option RaError) (front : List Span) (read : Ranges) → o ≢ Some OutOfMemory → read ≢ Err OutOfMemory → unless_refused o (with_lifetimes front read) ≢ Err OutOfMemory
behind_one (Some e) front read h k is = h (let x : e ≡ OutOfMemory = cc in ap (λ (e : RaError). Some e) x)
behind_one None front (Ok found) h k is = absurd cc
behind_one None front (Err e) h k is = k (let x : e ≡ OutOfMemory = cc in ap (λ (e : RaError). Err e) x)

of_options : (skip at : ℕ) (bytes : List ℕ) → options_from skip at bytes ≢ Err OutOfMemory
of_options skip at [] h = absurd cc
of_options (suc skip) at (byte ∷ bytes) h = of_options skip (at + 1) bytes h
of_options zero at (byte ∷ bytes) h =
    behind_one (option_refusal at (byte ∷ bytes)) (lifetimes_of byte at) (options_from (8 * slice_index bytes 0 - 1) (at + 1) bytes)
    (of_an_option (nat_lt (length (byte ∷ bytes)) 2) (slice_index (byte ∷ bytes) 1 == 0) (nat_lt (length (byte ∷ bytes)) (size_of (byte ∷ bytes))) ((slice_index (byte ∷ bytes) 0 == 3) && nat_lt (size_of (byte ∷ bytes)) 16) at)
    (of_options (8 * slice_index bytes 0 - 1) (at + 1) bytes) h

of_lengths : (a b c : Bool) (read : Ranges) → read ≢ Err OutOfMemory → cond a (cond b (Err Short) (cond c (Err TooLong) (with_lifetimes (router ∷ []) read))) (Err NotRa) ≢ Err OutOfMemory
of_lengths false b c read k h = absurd cc
of_lengths true true c read k h = absurd cc
of_lengths true false true read k h = absurd cc
of_lengths true false false read k h = behind_one None (router ∷ []) read (λ e. absurd cc) k h

of_a_record : (frame : List ℕ) (now : ℕ) (read : Ranges) → read ≢ Err OutOfMemory → seen_at frame now read ≢ Err OutOfMemory
of_a_record frame now (Ok found) k h = absurd cc
of_a_record frame now (Err e) k h = k (let x : e ≡ OutOfMemory = cc in ap (λ (e : RaError). Err e) x)

pub refusals : (frame : List ℕ) (now : ℕ) → advert frame now ≢ Err OutOfMemory
unfolding advert
refusals frame now =
    of_a_record frame now (lifetimes_in frame)
    (of_lengths (candidate frame) (nat_lt (length frame) options_at) (nat_lt advertisement_limit (length frame)) (options_from 0 options_at (drop options_at frame)) (of_options 0 options_at (drop options_at frame)))
