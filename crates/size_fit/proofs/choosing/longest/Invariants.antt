use Rattle.std.proofs.Common.{◌≡◌, ◌≤◌, take}
use Rattle.size_fit.specs.Choosing.{need_with}
use Rattle.size_fit.proofs.choosing.longest.Given as goal

abbrev pub invariant-loop-held : goal.invariant-loop-held
invariant-loop-held l = record {
  kept : l.fit.kept ≡ l.held-index;
  need : l.fit.need ≡ need_with l.fn.need (take l.held-index l.records);
  fits : l.fit.need ≤ l.limit;
}
