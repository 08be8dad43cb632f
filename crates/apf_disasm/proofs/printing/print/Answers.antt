-- What was appended is the listing's text, which reads back and is short.
use Rattle.std.proofs.Common.{arith}
use Rattle.apf_disasm.proofs.Printed.{reads_back, short, on_ok_more}
use Rattle.apf_disasm.proofs.printing.print.Goals as goal

pub returns-else-is_err-clause-reads_back : goal.returns-else-is_err-clause-reads_back
returns-else-is_err-clause-reads_back c =
    let code = c.args.code.now in
    on_ok_more c.append-result.result _ _ c.append-result.ensures.ok (λ p text e. reads_back code c.args.out.now c.append-result.new.out text (λ i. omega (arith, c.type_inv.code i)) c.requires p e)

pub returns-else-is_err-clause-short : goal.returns-else-is_err-clause-short
returns-else-is_err-clause-short c =
    let code = c.args.code.now in
    on_ok_more c.append-result.result _ _ c.append-result.ensures.ok (λ p text e small. short code c.args.out.now c.append-result.new.out text (λ i. omega (arith, c.type_inv.code i)) c.requires p e small)
