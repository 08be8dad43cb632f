use Rattle.script_text.proofs.OneAnswer.{either, not_both, one_script, one_fault}
use Rattle.script_text.proofs.script_laws.texts_have_one_answer.Goals as goal

pub returns-clause-either : goal.returns-clause-either
returns-clause-either c text = either text

pub returns-clause-not_both : goal.returns-clause-not_both
returns-clause-not_both c text contents line kind = not_both text contents line kind

pub returns-clause-one_script : goal.returns-clause-one_script
returns-clause-one_script c text a b = one_script text a b

pub returns-clause-one_fault : goal.returns-clause-one_fault
returns-clause-one_fault c text line other kind cause = one_fault text line other kind cause
