use Rattle.std.proofs.Common.{◌∙◌}
use Rattle.std.specs.Prelude.{codes, string_bytes}
use Rattle.std.specs.Fmt.{decimal}
use Rattle.script_text.specs.Report.{frame_line}
use Rattle.script_text.proofs.Pieces.{pieces-14, onto_nothing}
use Rattle.script_text.proofs.report.frame_text.Goals as goal

pub returns : goal.returns
unfolding frame_line
returns c =
    let a = c.args.a.now in
    rw (← c.in_ok-lane.ensures, ← c.name-verdict.ensures, ← c.counter_word-counter.ensures)
    (onto_nothing _ _ _ c.in_ok-write.ensures.bytes c.in_ok-text.ensures.bytes
    ∙ pieces-14 (codes "frame ") (decimal c.args.k) (string_bytes c.in_ok-lane.lane) (codes " gen ") (decimal a.number) (codes " age ") (decimal a.age) (codes " ") c.name-verdict.result.now (codes " ") c.counter_word-counter.result.now (codes " steps ") (decimal a.steps) (codes "\n"))
