-- The lines of the counters so far were written.
use Rattle.std.proofs.Common.{◌≡◌}
use Rattle.std.specs.Prelude.{string_bytes}
use Rattle.script_text.proofs.Counted.{counted}
use Rattle.script_text.proofs.totals.counter_texts.Given as goal

abbrev pub invariant-loop-counter : goal.invariant-loop-counter
invariant-loop-counter l = string_bytes l.text ≡ counted l.memory l.counter-index
