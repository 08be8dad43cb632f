-- What was read, and what is left.
use Rattle.std.proofs.Common.{◌≡◌, ◌≤◌, ◌-◌, length}
use Rattle.std.specs.Option.{option_copied}
use Rattle.script_text.specs.ScriptReading.{ethertypes_of}
use Rattle.script_text.proofs.DenyLists.{rest_of, after_front}
use Rattle.script_text.proofs.ethertypes.ethertypes.Given as goal
use Rattle.policy_state.specs.Limits.{denied_most}

abbrev pub invariant-loop-rest : goal.invariant-loop-rest
invariant-loop-rest l = record {
  read : ethertypes_of l.word ≡ after_front l.deny (rest_of (option_copied l.rest));
  few : length l.deny ≤ denied_most;
}

abbrev pub decreases-loop-rest : goal.decreases-loop-rest
decreases-loop-rest l = denied_most - length l.deny
