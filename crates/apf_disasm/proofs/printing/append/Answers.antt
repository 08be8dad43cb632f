-- The lines are the listing, and their texts its text.
use Rattle.apf_disasm.proofs.Printed.{appends}
use Rattle.apf_disasm.proofs.printing.append.Goals as goal

pub returns-clause-ok : goal.returns-clause-ok
returns-clause-ok c =
    appends c.append_lines.result c.args.code.now c.args.out.now c.append_lines.new.out c.in_ok-lines.lines c.in_ok-lines.ensures.listing
    (rw c.as_slice.ensures at c.append_lines.ensures.ok)
