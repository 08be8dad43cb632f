use Rattle.apf_asm.proofs.Answering.{overlong_where}
use Rattle.apf_asm.proofs.assembly.assemble_bytes.Goals as goal

pub returns-clause-too_long : goal.returns-clause-too_long
returns-clause-too_long c = λ n.
    let e = c.bytes_of_items.ensures in
    overlong_where c.args.items.now c.bytes_of_items.result n e.ok e.err
