-- Which word spells which value.
use Rattle.std.specs.Prelude.{◌≡◌, ℕ, ◌^◌, ◌<◌, ◌≤◌, List, length}
use Rattle.hex.specs.Hex.{IsBytes}
use Rattle.policy_state.specs.declared.state.Address.{Address}
use Rattle.script_text.specs.declared.words.Endpoint.{Endpoint}
use Rattle.script_text.specs.Words.{mac_word, ethertype_word, ip_word, address_word, endpoint_word}

-- six bytes
pub record SpellsMac (word mac : List ℕ) : Type 0 where
  pub six : length mac ≡ 6
  pub fit : IsBytes mac
  pub spelled : word ≡ mac_word mac

-- a number of 16 bits
pub record SpellsEthertype (word : List ℕ) (e : ℕ) : Type 0 where
  pub fits : e < 2 ^ 16
  pub spelled : word ≡ ethertype_word e

-- an address as a big-endian number
pub record SpellsIp (word : List ℕ) (ip : ℕ) : Type 0 where
  pub fits : ip < 2 ^ 32
  pub spelled : word ≡ ip_word ip

-- The prefix is any number of a byte: whether the state takes it is another question.
pub record SpellsAddress (word : List ℕ) (a : Address) : Type 0 where
  pub ip : a.ip < 2 ^ 32
  pub «prefix» : a.prefix ≤ 255
  pub spelled : word ≡ address_word a

-- an address and a port, which is a number of 16 bits
pub record SpellsEndpoint (word : List ℕ) (e : Endpoint) : Type 0 where
  pub ip : e.ip < 2 ^ 32
  pub port : e.port < 2 ^ 16
  pub spelled : word ≡ endpoint_word e
