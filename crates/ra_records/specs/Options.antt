-- The options of a router advertisement (RFC 4861, section 4.6): the first refusal, or the ranges of their lifetimes.
-- Prefix information is of RFC 4861, section 4.6.2, routes are of RFC 4191, DNS servers and search lists of RFC 8106.
use Rattle.std.specs.Prelude.{ℕ, zero, suc, ◌+◌, ◌-◌, ◌*◌, nat_lt, ◌==◌, ◌||◌, ◌&&◌, if◌then◌else◌, List, [], ◌∷◌, ◌++◌, length, slice_index, Option, Some, None, Result, Ok, Err}
use Rattle.ra_records.specs.declared.span.Span.{Span}
use Rattle.ra_records.specs.declared.span.RaError.{RaError}
use Rattle.ra_records.specs.declared.span.RaError.TheVariants.{CutOption, ZeroOption, ShortOption}
use Rattle.ra_records.specs.Masks.{span}

-- prefix information (3) has the valid and the preferred lifetime; routes (24), DNS servers (25) and search lists (31) have one
abbrev pub lifetimes_of : ℕ → ℕ → List Span
lifetimes_of kind at =
    if kind == 3 then span (at + 4) 4 ∷ span (at + 8) 4 ∷ []
    else if (kind == 24) || (kind == 25) || (kind == 31) then span (at + 4) 4 ∷ []
    else []

-- the bytes of an option: its second byte counts them in units of 8
abbrev pub size_of : List ℕ → ℕ
size_of bytes = 8 * slice_index bytes 1

-- why the option that these bytes begin with is refused; the first of them stands at this place
abbrev pub option_refusal : ℕ → List ℕ → Option RaError
option_refusal at bytes =
    if nat_lt (length bytes) 2 then Some (CutOption at)
    else if slice_index bytes 1 == 0 then Some (ZeroOption at)
    else if nat_lt (length bytes) (size_of bytes) then Some (CutOption at)
    else if (slice_index bytes 0 == 3) && nat_lt (size_of bytes) 16 then Some (ShortOption at)
    else None

-- the ranges of an option, in front of those of the options behind it
abbrev pub with_lifetimes : List Span → Result (List Span) RaError → Result (List Span) RaError
with_lifetimes front (Ok found) = Ok (front ++ found)
with_lifetimes front (Err e) = Err e

-- what the options behind it are read as, unless it is refused
abbrev pub unless_refused : Option RaError → Result (List Span) RaError → Result (List Span) RaError
unless_refused None found = found
unless_refused (Some e) found = Err e

-- the options of these bytes, of which so many first belong to an option that was told
abbrev pub options_from : ℕ → ℕ → List ℕ → Result (List Span) RaError
options_from skip at [] = Ok []
options_from (suc skip) at (byte ∷ bytes) = options_from skip (at + 1) bytes
options_from zero at (byte ∷ bytes) =
    unless_refused (option_refusal at (byte ∷ bytes))
    (with_lifetimes (lifetimes_of byte at) (options_from (8 * slice_index bytes 0 - 1) (at + 1) bytes))
