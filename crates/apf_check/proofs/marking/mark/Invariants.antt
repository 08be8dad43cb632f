-- The instructions so far stand up to the present place, and their places are marked.
use Rattle.std.proofs.Common.{◌≡◌, ◌≤◌, ◌-◌, length}
use Rattle.apf_check.proofs.Marked.{MarkedTo}
use Rattle.apf_check.proofs.marking.mark.Given as goal

abbrev pub invariant-loop-end : goal.invariant-loop-end
invariant-loop-end l = record {
  marked : MarkedTo l.code l.count l.at l.marks;
  within : l.at ≤ length l.code;
  few : l.count ≤ l.at;
  size : length l.marks ≡ length l.code;
}

abbrev pub decreases-loop-end : goal.decreases-loop-end
decreases-loop-end l = length l.code - l.at
