-- Each turn adds the line of one counter.
use Rattle.std.proofs.Common.{ℕ, List, ◌++◌, get_or, sym, ap, ◌∙◌, rules}
use Rattle.data_counters.specs.Counters.{all_counters}
use Rattle.data_counters.specs.declared.counter.Counter.TheVariants.{TotalPackets}
use Rattle.script_text.specs.Report.{counter_line}
use Rattle.script_text.proofs.Counted.{counted-more, counted-none, counted-all}
use Rattle.script_text.proofs.totals.counter_texts.Goals as goal

pub loop-counter-init : goal.loop-counter-init
loop-counter-init c = c.new-text.ensures.bytes ∙ sym (counted-none c.args.memory.now)

pub loop-counter-preserved : goal.loop-counter-preserved
loop-counter-preserved c =
    let counter = get_or all_counters c.loop-counter.counter-index TotalPackets in
    c.in_ok-add_counter.ensures
    ∙ ap (λ (t : List ℕ). t ++ counter_line c.args.memory.now counter) c.loop-counter.invariant
    ∙ counted-more c.args.memory.now c.loop-counter.counter-index (search rules)

pub returns : goal.returns
returns c = c.loop-counter.invariant ∙ counted-all c.args.memory.now c.loop-counter.counter-index (search rules)
