-- The state at the start.
use Rattle.std.specs.Prelude.{false, replicate, None}
use Rattle.policy_state.specs.declared.state.FilterState.{FilterState}

-- all off and empty
abbrev pub start : FilterState
start = record { multicast = false; doze = false; address = None; keepalives = replicate 8 None }
