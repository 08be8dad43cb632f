use Rattle.std.proofs.Common.{◌∙◌}
use Rattle.std.specs.Prelude.{codes, string_bytes, length}
use Rattle.std.specs.Fmt.{decimal}
use Rattle.script_text.specs.Report.{gen_line}
use Rattle.script_text.proofs.Pieces.{pieces-11, onto_nothing}
use Rattle.script_text.proofs.report.gen_text.Goals as goal

pub returns : goal.returns
unfolding gen_line
returns c =
    rw (← c.in_ok-left.ensures, ← c.in_ok-code.ensures)
    (onto_nothing _ _ _ c.in_ok-write.ensures.bytes c.in_ok-text.ensures.bytes
    ∙ pieces-11 (codes "gen ") (decimal c.args.number) (codes " at ") (decimal c.args.at) (codes " size ") (decimal (length c.args.code.now)) (codes " left ") (string_bytes c.in_ok-left.left) (codes " code ") (string_bytes c.in_ok-code.code) (codes "\n"))
