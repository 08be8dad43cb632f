-- The texts of the lines so far were appended.
use Rattle.std.proofs.Common.{◌≡◌, ◌++◌, map, take}
use Rattle.apf_disasm.specs.Listing.{entry_of}
use Rattle.apf_disasm.specs.Printing.{listing_text}
use Rattle.apf_disasm.proofs.printing.append_lines.Given as goal

abbrev pub invariant-loop-line : goal.invariant-loop-line
invariant-loop-line l = l.out ≡ l.fn.out ++ listing_text (map entry_of (take l.line-index l.lines))
