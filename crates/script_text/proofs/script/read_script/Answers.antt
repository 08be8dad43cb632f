-- The function's answer is the grammar's.
use Rattle.script_text.proofs.EventCounts.{few_found}
use Rattle.script_text.proofs.OneAnswer.{told_found, told_only, told_named, told_refused}
use Rattle.script_text.proofs.script.read_script.Goals as goal

pub returns-clause-found : goal.returns-clause-found
returns-clause-found c = told_found c.args.text.now c.read_lines.result c.read_lines.ensures

pub returns-clause-only : goal.returns-clause-only
returns-clause-only c = told_only c.args.text.now c.read_lines.result c.read_lines.ensures

pub returns-clause-named : goal.returns-clause-named
returns-clause-named c = told_named c.args.text.now c.read_lines.result c.read_lines.ensures

pub returns-clause-refused : goal.returns-clause-refused
returns-clause-refused c = told_refused c.args.text.now c.read_lines.result c.read_lines.ensures

pub returns-clause-few : goal.returns-clause-few
returns-clause-few c = few_found c.args.text.now c.read_lines.result (told_found c.args.text.now c.read_lines.result c.read_lines.ensures)
