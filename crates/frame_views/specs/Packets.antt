-- The IPv4 header (RFC 791, section 3.1), as what stands behind it is found by its length.
use Rattle.std.specs.Prelude.{ℕ, ◌*◌, ◌/◌, ◌%◌, ◌==◌, if◌then◌else◌, List, slice_index}

-- four times the low nibble of byte 14 where its high nibble is 4. A frame that lacks this byte is as one with a zero there
abbrev pub header_length : List ℕ → ℕ
header_length frame = let b = slice_index frame 14 in if b / 16 == 4 then b % 16 * 4 else 0

-- a frame, and the length of the IPv4 header that stands before a segment
pub record Segment : Type 0 where
  pub frame : List ℕ
  pub header : ℕ
