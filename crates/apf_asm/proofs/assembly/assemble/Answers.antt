use Rattle.apf_asm.proofs.Answering.{overlong_where, result_runs}
use Rattle.apf_asm.proofs.assembly.assemble.Goals as goal

pub returns-clause-runs : goal.returns-clause-runs
returns-clause-runs c =
    let e = c.assemble_items.ensures in
    result_runs c.args.items.now c.assemble_items.result c.requires.forms e.ok e.bytes e.places

pub returns-clause-too_long : goal.returns-clause-too_long
returns-clause-too_long c = λ n.
    let e = c.assemble_items.ensures in
    overlong_where c.args.items.now c.assemble_items.result n e.ok e.err
