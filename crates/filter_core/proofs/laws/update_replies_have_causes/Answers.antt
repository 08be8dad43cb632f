use Rattle.filter_core.proofs.Causes.{same_exactly, refused_exactly, not_installed_exactly}
use Rattle.filter_core.proofs.laws.update_replies_have_causes.Goals as goal

pub returns : goal.returns
returns c = record { same = same_exactly; refused = refused_exactly; not_installed = not_installed_exactly }
