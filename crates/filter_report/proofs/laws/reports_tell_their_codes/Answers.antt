use Rattle.filter_report.proofs.CodesTold.{codes_told}
use Rattle.filter_report.proofs.laws.reports_tell_their_codes.Goals as goal

pub returns : goal.returns
returns c = record { same = codes_told }
