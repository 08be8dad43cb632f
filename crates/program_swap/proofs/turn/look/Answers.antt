use Rattle.std.proofs.Common.{◌≡◌, sym, ap, subst, ◌∙◌, arith, Some}
use Rattle.program_swap.specs.Histories.{History, history, RisesByOne}
use Rattle.program_swap.specs.Board.{ReachesNumber}
use Rattle.program_swap.proofs.turn.look.Goals as goal

pub returns-in-Ok : goal.returns-in-Ok
returns-in-Ok c =
    let ok = c.in-Ok.ensures.ok in
    let left = c.leave.ensures in
    let f = c.known-known.result in
    let is : history f.book f.log ≡ c.in-Ok.inside.reading.part.value = c.known-known.ensures.history ∙ c.shown.ensures in
    record {
      entered = left.0 ∙ ok.0;
      refused = (omega (arith, left.1, ok.1), omega (arith, left.1, ok.2));
      follows = rw left.2 ok.3;
      read = left.2 ∙ (ok.4 ∙ ap Some (sym is));
      rising = subst RisesByOne (sym (ap (λ (s : History). s.installs) c.known-known.ensures.history)) c.known-known.ensures.rising;
      from = subst (ReachesNumber c.args.least) (sym is) ok.5;
    }
