-- A router advertisement (RFC 4861, section 4.2): what is read of a frame, which frames are the same, and how long it
-- holds. After ApfFilter of Android 10.
use Rattle.std.specs.Prelude.{◌≡◌, ℕ, ◌+◌, ◌-◌, ◌/◌, ◌^◌, ◌≤◌, ◌<◌, nat_lt, ◌==◌, min, Bool, true, false, ◌&&◌, ◌||◌, if◌then◌else◌, List, [], ◌∷◌, length, drop, slice_range, slice_index, Option, Some, None, Result, Ok, Err}
use Rattle.std.specs.List.{list_all}
use Rattle.frame_views.specs.Fields.{bytes_value, field}
use Rattle.ra_records.specs.declared.span.Span.{Span}
use Rattle.ra_records.specs.declared.span.RaError.{RaError}
use Rattle.ra_records.specs.declared.span.RaError.TheVariants.{NotRa, Short, TooLong}
use Rattle.ra_records.specs.Masks.{span, is_masked, same_outside, between, IsRising}
use Rattle.ra_records.specs.Options.{options_from, with_lifetimes}

-- ---- what is read of a frame

-- a field is there and is this number
abbrev pub holds : Option ℕ → ℕ → Bool
holds None n = false
holds (Some v) n = v == n

-- IPv6, ICMPv6, and a router advertisement
abbrev pub candidate : List ℕ → Bool
candidate frame = holds (field frame 12 2) 0x86dd && (holds (field frame 20 1) 58 && holds (field frame 54 1) 134)

-- where the options begin, behind the message's fixed part, and the most bytes of a frame that is read
abbrev pub options_at : ℕ
options_at = 70

abbrev pub advertisement_limit : ℕ
advertisement_limit = 1514

-- the flow label with half of the traffic class, the checksum, and the router lifetime
abbrev pub flow_label : Span
flow_label = span 15 3

abbrev pub checksum : Span
checksum = span 56 2

abbrev pub router : Span
router = span 60 2

-- the ranges of all lifetimes, or the first refusal
abbrev pub lifetimes_in : List ℕ → Result (List Span) RaError
lifetimes_in frame =
    if candidate frame
    then (if nat_lt (length frame) options_at then Err Short
    else if nat_lt advertisement_limit (length frame) then Err TooLong
    else with_lifetimes (router ∷ []) (options_from 0 options_at (drop options_at frame)))
    else Err NotRa

-- a record: the bytes of the frame, its lifetimes, and when it was last seen
pub record Advert : Type 0 where
  pub bytes : List ℕ
  pub lifetimes : List Span
  pub seen : ℕ

-- with what was read, at this second
abbrev pub seen_at : List ℕ → ℕ → Result (List Span) RaError → Result Advert RaError
seen_at frame now (Ok lifetimes) = Ok (record { bytes = frame; lifetimes = lifetimes; seen = now })
seen_at frame now (Err e) = Err e

-- the record of a frame that is seen at this second, or the first refusal
unfoldable pub advert : List ℕ → ℕ → Result Advert RaError
advert frame now = seen_at frame now (lifetimes_in frame)

-- ---- the same again

-- what may change: the flow label, the checksum, and every lifetime
abbrev pub masks : List Span → List Span
masks lifetimes = flow_label ∷ checksum ∷ lifetimes

-- the nonempty ranges that aren't masked
abbrev pub sections_of : List ℕ → List Span → List Span
sections_of bytes lifetimes = between 0 (masks lifetimes) (length bytes)

-- those of a record
abbrev pub sections : Advert → List Span
sections r = sections_of r.bytes r.lifetimes

-- as long as these bytes, and equal at every place that isn't masked
abbrev pub is_same : List ℕ → List Span → List ℕ → Bool
is_same bytes lifetimes frame = (length frame == length bytes) && same_outside (masks lifetimes) 0 frame bytes

-- whether a frame is the same as a record
unfoldable pub same : Advert → List ℕ → Bool
same r frame = is_same r.bytes r.lifetimes frame

-- ---- what is known of each record

-- a range of two or of four bytes
abbrev pub is_number : Span → Bool
is_number s = (s.len == 2) || (s.len == 4)

-- the lifetimes stand one behind the other, behind the checksum, and are numbers of two or of four bytes
pub record IsSound (bytes : List ℕ) (lifetimes : List Span) : Type 0 where
  pub rising : IsRising (checksum.at + checksum.len) lifetimes (length bytes)
  pub numbers : list_all is_number lifetimes ≡ true
  pub long : options_at ≤ length bytes
  pub short : length bytes ≤ advertisement_limit

-- ---- how long it holds

-- the number in a range of a frame
abbrev pub number_in : List ℕ → Span → ℕ
number_in frame s = bytes_value (slice_range frame s.at (s.at + s.len))

-- the least of the numbers in ranges; of none it is the greatest number of four bytes
abbrev pub least_in : List ℕ → List Span → ℕ
least_in frame [] = 2 ^ 32 - 1
least_in frame (s ∷ spans) = min (number_in frame s) (least_in frame spans)

-- what a record keeps: the ranges that are read of its bytes, the sections between them, and the least lifetime
pub record IsHeld (bytes : List ℕ) (lifetimes kept_sections : List Span) (kept_least : ℕ) : Type 0 where
  pub read : lifetimes_in bytes ≡ Ok lifetimes
  pub sound : IsSound bytes lifetimes
  pub sections : kept_sections ≡ sections_of bytes lifetimes
  pub least : kept_least ≡ least_in bytes lifetimes

-- the least lifetime
abbrev pub least : Advert → ℕ
least r = least_in r.bytes r.lifetimes

-- the seconds since it was last seen, or 0 where that is later
abbrev pub elapsed : Advert → ℕ → ℕ
elapsed r now = now - r.seen

-- what is left of the least lifetime; a record is expired where that is 0
abbrev pub remaining : Advert → ℕ → ℕ
remaining r now = least r - elapsed r now

-- a sixth of it, rounded down
abbrev pub hold : Advert → ℕ → ℕ
hold r now = remaining r now / 6

-- the same, place by place
pub record IsSame (r : Advert) (frame : List ℕ) : Type 0 where
  pub long : length frame ≡ length r.bytes
  pub outside : (i : ℕ) → i < length r.bytes → is_masked i (masks r.lifetimes) ≡ false → slice_index frame i ≡ slice_index r.bytes i
