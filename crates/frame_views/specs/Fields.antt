-- Fields of a frame, by their places. Numbers are big-endian, as in the headers of RFC 791 and its kin.
use Rattle.std.specs.Prelude.{ℕ, ◌+◌, ◌*◌, ◌^◌, nat_lt, if◌then◌else◌, List, [], ◌∷◌, length, slice_range, Option, Some, None}

-- the big-endian value of bytes
abbrev pub bytes_value : List ℕ → ℕ
bytes_value [] = 0
bytes_value (b ∷ bytes) = b * 256 ^ length bytes + bytes_value bytes

-- the bytes from a place on, or none where one of them isn't in the frame
unfoldable pub part : List ℕ → ℕ → ℕ → Option (List ℕ)
part frame at len = if nat_lt (length frame) (at + len) then None else Some (slice_range frame at (at + len))

-- the number in the bytes from a place on, or none where one of them isn't in the frame
unfoldable pub field : List ℕ → ℕ → ℕ → Option ℕ
field frame at width = if nat_lt (length frame) (at + width) then None else Some (bytes_value (slice_range frame at (at + width)))
