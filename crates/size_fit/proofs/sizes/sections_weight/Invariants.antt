use Rattle.std.proofs.Common.{◌≡◌, take}
use Rattle.std.specs.List.{sum_by}
use Rattle.size_fit.specs.Sizes.{section_weight}
use Rattle.size_fit.proofs.sizes.sections_weight.Given as goal

abbrev pub invariant-loop-section : goal.invariant-loop-section
invariant-loop-section l = l.sum ≡ sum_by section_weight (take l.section-index l.sections)
