use Rattle.script_text.proofs.Said.{says_again}
use Rattle.made_input.specs.MadeScripts.{made_script, made_contents}
use Rattle.made_input.proofs.Said.{said, script_short}
use Rattle.made_input.proofs.laws.made_scripts_are_scripts.Goals as goal

pub returns-clause-says : goal.returns-clause-says
returns-clause-says c n le = said n le

pub returns-clause-answered : goal.returns-clause-answered
returns-clause-answered c n le = says_again (made_script n) (made_contents n) (said n le)

pub returns-clause-short : goal.returns-clause-short
returns-clause-short c n le = script_short n le
