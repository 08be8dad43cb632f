use Rattle.filter_report.proofs.CodesTold.{report_codes, story_codes}
use Rattle.filter_report.proofs.laws.reports_have_one_list_of_codes.Goals as goal

pub returns : goal.returns
returns c = record { report = report_codes; story = story_codes }
