-- Words by functions that compute: the value that a word spells, if it spells one.
use Rattle.std.specs.Prelude.{ℕ, ◌+◌, ◌-◌, ◌*◌, ◌&&◌, ◌==◌, nat_lt, nat_le, if◌then◌else◌, List, [], ◌∷◌, length, Option, Some, None}
use Rattle.std.specs.List.{position_or_len, before_first, after_first}
use Rattle.std.specs.Option.{option_map}
use Rattle.std.specs.Int.{w16, w32, from_be_bytes}
use Rattle.std.specs.Net.Reader.{read_ipv4, whole_value}
use Rattle.apf_coding.specs.Reading.{◌>>=◌}
use Rattle.policy_state.specs.declared.state.Address.{Address}
use Rattle.script_text.specs.declared.words.Endpoint.{Endpoint}
use Rattle.plain_text.specs.Numbers.{number_within}

-- ---- hexadecimal digits

-- the value of a lower-case digit
unfoldable pub digit_of : ℕ → Option ℕ
digit_of c =
    if nat_le 48 c && nat_le c 57 then Some (c - 48)
    else if nat_le 97 c && nat_le c 102 then Some (c - 87)
    else None

-- the byte of two digits
unfoldable pub byte_of : ℕ → ℕ → Option ℕ
byte_of high low = do
  h ← digit_of high
  l ← digit_of low
  Some (16 * h + l)

-- the bytes of pairs of digits with colons between them
abbrev pub pairs_of : List ℕ → Option (List ℕ)
pairs_of [] = None
pairs_of (high ∷ []) = None
pairs_of (high ∷ low ∷ []) = do
  b ← byte_of high low
  Some (b ∷ [])
pairs_of (high ∷ low ∷ colon ∷ rest) = do
  b ← byte_of high low
  bytes ← if colon == 58 then pairs_of rest else None
  Some (b ∷ bytes)

-- the six bytes of a MAC
unfoldable pub mac_of : List ℕ → Option (List ℕ)
mac_of word = if length word == 17 then pairs_of word else None

-- the ethertype of four digits
unfoldable pub ethertype_of : List ℕ → Option ℕ
ethertype_of (a ∷ b ∷ c ∷ d ∷ []) = do
  high ← byte_of a b
  low ← byte_of c d
  Some (from_be_bytes w16 (high ∷ low ∷ []))
ethertype_of word = None

-- ---- addresses

-- what stands before the first such byte, and what stands behind it
unfoldable pub cut_of : ℕ → List ℕ → Option (List ℕ × List ℕ)
cut_of byte word =
    if nat_lt (position_or_len (λ b. b == byte) word) (length word)
    then Some (before_first (λ b. b == byte) word, after_first (λ b. b == byte) word)
    else None

-- the address of four numbers with dots between them
unfoldable pub ip_of : List ℕ → Option ℕ
ip_of word = option_map (from_be_bytes w32) (whole_value (read_ipv4 word))

-- what stands on both sides of the slash
unfoldable pub address_of : List ℕ → Option Address
address_of word = do
  parts ← cut_of 47 word
  ip ← ip_of parts.0
  bits ← number_within 255 parts.1
  Some (record { ip = ip; prefix = bits })

-- what stands on both sides of the colon
unfoldable pub endpoint_of : List ℕ → Option Endpoint
endpoint_of word = do
  parts ← cut_of 58 word
  ip ← ip_of parts.0
  port ← number_within 65535 parts.1
  Some (record { ip = ip; port = port })
