use Rattle.std.proofs.Common.{Option, sym, ◌∙◌, ap}
use Rattle.data_counters.specs.Memory.{raised}
use Rattle.data_counters.specs.declared.counter.Counter.{Counter}
use Rattle.program_swap.proofs.Renewing.{raised_by, long-raises}
use Rattle.program_swap.proofs.again.raise_again.Goals as goal

pub returns-in_default : goal.returns-in_default
returns-in_default c i now after t =
    let before = c.args.memory.now in
    c.raise.ensures ∙ sym (ap (λ (o : Option Counter). raised_by o before) c.in_default.is) ∙ long-raises i c.args.frame.now now before c.args.answer.now after c.if-frame-le14.false t

pub returns : goal.returns
returns c i now after t =
    let before = c.args.memory.now in
    c.raise-2.ensures ∙ ap (raised c.in-Some.counter) c.raise.ensures
    ∙ sym (ap (λ (o : Option Counter). raised_by o before) c.in-Some.is)
    ∙ long-raises i c.args.frame.now now before c.args.answer.now after c.if-frame-le14.false t
