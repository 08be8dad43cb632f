-- The test, the rules, the records and what stands behind them.
use Rattle.apf_generate.proofs.Ip6Question.{ip6_added}
use Rattle.apf_generate.proofs.program.add_ip6.Goals as goal

pub returns : goal.returns
returns c =
    ip6_added c.args.basis.now c.args.next.now c.emit_ip6.new.next c.add_records.new.next c.as_slice.result.now c.args.out.now c.add_ip6_test.new.out c.emit_ip6.new.out c.add_records.new.out c.add_ip6_last.new.out c.push.new.self
    c.requires.low c.in_ok-add_ip6_test.ensures c.in_ok-emit_ip6.ensures.ok c.as_slice.ensures c.in_ok-add_records.ensures c.in_ok-add_ip6_last.ensures c.in_ok-push.ensures.ok
