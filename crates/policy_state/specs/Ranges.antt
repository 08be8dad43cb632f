-- Values whose numbers lie in the ranges of their types.
use Rattle.std.specs.Prelude.{◌≡◌, ℕ, ◌<◌, ◌^◌, List, length}
use Rattle.apf_coding.specs.Words.{AreBytes}
use Rattle.policy_state.specs.declared.state.Keepalive.{Keepalive}

-- six bytes
pub record IsMac (mac : List ℕ) : Type 0 where
  pub six : length mac ≡ 6
  pub bytes : AreBytes mac

-- numbers of 32 bits, and ports of 16
pub record IsKeepalive (sent : Keepalive) : Type 0 where
  pub local : sent.local < 2 ^ 32
  pub local_port : sent.local_port < 2 ^ 16
  pub remote : sent.remote < 2 ^ 32
  pub remote_port : sent.remote_port < 2 ^ 16
  pub sequence : sent.sequence < 2 ^ 32
  pub acknowledgement : sent.acknowledgement < 2 ^ 32
