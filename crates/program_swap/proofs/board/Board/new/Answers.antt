use Rattle.std.proofs.Common.{List, sym, subst, fold}
use Rattle.program_swap.specs.Histories.{History}
use Rattle.program_swap.specs.Board.{GrowsTo}
use Rattle.program_swap.proofs.Keeping.{begins_self}
use Rattle.program_swap.proofs.board.Board.new.Goals as goal

-- nothing is pending, so what is shown next is what is shown
pub publish-writer-requires : goal.publish-writer-requires
publish-writer-requires g c =
    let shown = c.in-Ok-new.writer.desk.shown.value in
    subst (λ (w : List History). GrowsTo shown (fold (λ _ n. n) shown w)) (sym c.in-Ok-new.ensures.1) (begins_self shown)
