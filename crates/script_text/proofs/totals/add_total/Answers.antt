use Rattle.std.proofs.Common.{ℕ, List, ◌-◌, ◌++◌, ap, ◌∙◌}
use Rattle.std.specs.Prelude.{codes, string_bytes}
use Rattle.std.specs.Fmt.{decimal}
use Rattle.script_text.specs.Report.{total_line}
use Rattle.script_text.proofs.Pieces.{pieces-9}
use Rattle.script_text.proofs.totals.add_total.Goals as goal

pub returns : goal.returns
unfolding total_line
returns c =
    let frames = c.args.frames in
    let passed = c.args.passed in
    let programs = c.args.programs in
    c.in_ok-write.ensures.bytes
    ∙ ap (λ (t : List ℕ). string_bytes c.args.text.now ++ t)
    (pieces-9 (codes "total frames ") (decimal frames) (codes " passed ") (decimal passed) (codes " dropped ") (decimal (frames - passed)) (codes " programs ") (decimal programs) (codes "\n"))
