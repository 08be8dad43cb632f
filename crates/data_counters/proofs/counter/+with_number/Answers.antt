use Rattle.std.proofs.Common.{◌∙◌, rules}
use Rattle.data_counters.proofs.Listed.{find_behind}
use Rattle.data_counters.proofs.counter.+with_number.Goals as goal

pub returns-in-len1-up-2 : goal.returns-in-len1-up-2
returns-in-len1-up-2 t c =
    c.with_number.ensures ∙ find_behind c.args.n c.args.counters.now _ c.in-len1-up.len_at_least (search rules) (λ e. c.if-number-n.false (c.number.ensures.value ∙ e))
