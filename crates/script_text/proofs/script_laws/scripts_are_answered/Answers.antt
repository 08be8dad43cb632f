use Rattle.script_text.proofs.Said.{says_found, says_again}
use Rattle.script_text.proofs.FaultsFound.{refused_found}
use Rattle.script_text.proofs.FaultsAgain.{refused_again}
use Rattle.script_text.proofs.script_laws.scripts_are_answered.Goals as goal

pub returns-clause-says : goal.returns-clause-says
returns-clause-says c text contents = (says_found text contents, says_again text contents)

pub returns-clause-refused : goal.returns-clause-refused
returns-clause-refused c text line kind = (refused_found text line kind, refused_again text line kind)
