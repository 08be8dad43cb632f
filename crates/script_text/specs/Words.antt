-- The words of scripts and command lines, as the texts of their values. Addresses are written as in RFC 1123, section 2.1.
use Rattle.std.specs.Prelude.{ℕ, List, [], ◌∷◌, ◌++◌, map, codes}
use Rattle.std.specs.Int.{w16, w32, to_be_bytes}
use Rattle.std.specs.Fmt.{decimal}
use Rattle.std.specs.List.{join_with_byte}
use Rattle.std.specs.Net.Text.{ipv4_text}
use Rattle.hex.specs.Hex.{encode_lower}
use Rattle.policy_state.specs.declared.state.Address.{Address}
use Rattle.script_text.specs.declared.words.Endpoint.{Endpoint}

-- ---- the texts

-- two lower-case digits a byte, and colons between the bytes
abbrev pub mac_word : List ℕ → List ℕ
mac_word mac = join_with_byte 58 (map (λ b. encode_lower (b ∷ [])) mac)

-- four lower-case digits
abbrev pub ethertype_word : ℕ → List ℕ
ethertype_word e = encode_lower (to_be_bytes w16 e)

-- four decimal numbers and dots between them, the high byte first
abbrev pub ip_word : ℕ → List ℕ
ip_word ip = ipv4_text (to_be_bytes w32 ip)

-- an address and its prefix
abbrev pub address_word : Address → List ℕ
address_word a = ip_word a.ip ++ codes "/" ++ decimal a.prefix

-- an address and a port
abbrev pub endpoint_word : Endpoint → List ℕ
endpoint_word e = ip_word e.ip ++ codes ":" ++ decimal e.port
