use Rattle.apf_run.proofs.Thought.{script_read, script_bad}
use Rattle.apf_run.proofs.filter.script_of.Goals as goal

pub returns-in-Ok-clause-script : goal.returns-in-Ok-clause-script
returns-in-Ok-clause-script c = script_read c.args.text.now c.in-Ok.script c.in-Ok.ensures.found c.in-Ok.ensures.exact

pub returns-in-Err-Bad-clause-script : goal.returns-in-Err-Bad-clause-script
returns-in-Err-Bad-clause-script c = script_bad c.args.text.now c.in-Err-Bad.field-0 c.in-Err-Bad.line c.in-Err-Bad.kind c.in-Err-Bad.field-0-is c.in-Err-Bad.ensures.exact
