use Rattle.std.proofs.Common.{◌≡◌, ◌≤◌, ◌++◌, length, drop}
use Rattle.filter_core.specs.Records.{standing}
use Rattle.filter_core.proofs.records.standing.Given as goal

abbrev pub invariant-loop-held : goal.invariant-loop-held
invariant-loop-held l = record {
  told : l.list ++ standing l.now (drop l.held-index l.records) ≡ standing l.now l.records;
  few : length l.list ≤ l.held-index;
}
