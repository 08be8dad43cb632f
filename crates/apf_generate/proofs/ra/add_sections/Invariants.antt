use Rattle.std.proofs.Common.{◌≡◌, ◌++◌, take, flat_map}
use Rattle.apf_generate.specs.RaListing.{section_items}
use Rattle.apf_generate.proofs.ra.add_sections.Given as goal

abbrev pub invariant-loop-section : goal.invariant-loop-section
invariant-loop-section l = l.out ≡ l.fn.out ++ flat_map (section_items l.away l.bytes) (take l.section-index l.sections)
