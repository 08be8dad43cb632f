use Rattle.std.proofs.Common.{ℕ, List, ◌++◌, get_or, sym, ap, ◌∙◌, rules}
use Rattle.data_counters.specs.Counters.{all_counters}
use Rattle.data_counters.specs.declared.counter.Counter.TheVariants.{TotalPackets}
use Rattle.script_text.specs.Report.{total_line}
use Rattle.filter_report.specs.Text.{lines_of_counter}
use Rattle.filter_report.proofs.Summing.{counted_lines-more, counted_lines-none, last_lines_are}
use Rattle.filter_report.proofs.totals.last_lines.Goals as goal

pub loop-counter-init : goal.loop-counter-init
loop-counter-init c = c.new-lines.ensures ∙ sym (counted_lines-none c.args.memory.now)

pub loop-counter-preserved : goal.loop-counter-preserved
loop-counter-preserved c =
    let counter = get_or all_counters c.loop-counter.counter-index TotalPackets in
    c.in_ok-add_counter.ensures
    ∙ ap (λ (t : List (List ℕ)). t ++ lines_of_counter c.args.memory.now counter) c.loop-counter.invariant
    ∙ counted_lines-more c.args.memory.now c.loop-counter.counter-index (search rules)

pub returns : goal.returns
returns c =
    last_lines_are c.args.memory.now c.loop-counter.counter-index c.args.frames c.args.passed c.args.installs _ _ _ (search rules) c.in_ok-push.ensures.ok c.loop-counter.invariant
    (c.in_ok-print_total.ensures.ok ∙ ap (λ (l : List ℕ). l ++ total_line c.args.frames c.args.passed c.args.installs) c.new-line.ensures)
