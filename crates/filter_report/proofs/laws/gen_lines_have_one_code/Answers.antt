use Rattle.filter_report.proofs.CodesTold.{one_code}
use Rattle.filter_report.proofs.laws.gen_lines_have_one_code.Goals as goal

pub returns : goal.returns
returns c = record { one = one_code }
