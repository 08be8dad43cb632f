-- The widths that numbers have, in bytes.
use Rattle.std.specs.Prelude.{ℤ, pos, negsuc, ◌==◌, nat_lt, if◌then◌else◌, ℕ, ◌+◌, ◌*◌, ◌^◌, ◌<◌, ◌≤◌}

-- so many bytes hold the unsigned number
abbrev pub Holds : ℕ → ℕ → Type 0
Holds width v = v < 256 ^ width

-- so many bytes hold the signed number in two's complement; negsuc n is -(n + 1)
abbrev pub HoldsSigned : ℕ → ℤ → Type 0
HoldsSigned width (pos n) = 2 * n < 256 ^ width
HoldsSigned width (negsuc n) = 2 * (n + 1) ≤ 256 ^ width

-- the least width that holds an unsigned number: 0 for 0, 1 to 255, 2 to 65535, else 4
abbrev pub least_unsigned : ℕ → ℕ
least_unsigned v = if v == 0 then 0 else if nat_lt v 256 then 1 else if nat_lt v 65536 then 2 else 4

-- the least width that holds a signed number: 0 for 0, 1 for -128 to 127, 2 for -32768 to 32767, else 4
abbrev pub least_signed : ℤ → ℕ
least_signed (pos n) = if n == 0 then 0 else if nat_lt n 128 then 1 else if nat_lt n 32768 then 2 else 4
least_signed (negsuc n) = if nat_lt n 128 then 1 else if nat_lt n 32768 then 2 else 4
