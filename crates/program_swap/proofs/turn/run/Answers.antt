use Rattle.std.proofs.Common.{◌≡◌, ℕ, ◌+◌, ◌-◌, ◌^◌, sym, ap, subst, ◌∙◌, arith, Some, min}
use Rattle.program_swap.specs.Histories.{History, history, RisesByOne, HasLast}
use Rattle.program_swap.proofs.turn.run.Goals as goal

pub returns-in-Ok : goal.returns-in-Ok
returns-in-Ok c =
    let ok = c.in-Ok.ensures.ok in
    let left = c.leave_answered-place.ensures in
    let f = c.known-known.result in
    let told = c.known-known.ensures.history in
    let is : history f.book f.log ≡ c.in-Ok.inside.reading.part.value = told ∙ c.shown-shown.ensures in
    record {
      entered = left.0 ∙ ap (λ (n : ℕ). min (n + 1) (2 ^ 64 - 1)) ok.0;
      refused = (omega (arith, left.1, ok.1), omega (arith, left.1, ok.2));
      follows = rw left.2 ok.3;
      read = left.2 ∙ (ok.4 ∙ ap Some (sym is));
      rising = subst RisesByOne (sym (ap (λ (s : History). s.installs) told)) c.known-known.ensures.rising;
      by = c.install.result.now;
      last = subst (λ (s : History). HasLast s.installs c.install.result.now) (sym told) c.install.ensures;
      answer = c.answer-answer.ensures;
    }
