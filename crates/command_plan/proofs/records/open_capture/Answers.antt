use Rattle.command_plan.proofs.Opening.{starts_telling}
use Rattle.command_plan.proofs.records.open_capture.Goals as goal

pub returns-in-Ok-start-clause-opened : goal.returns-in-Ok-start-clause-opened
returns-in-Ok-start-clause-opened g c = starts_telling _ _ _ _ c.in-Ok.ensures.ok c.in-Ok-start.ensures.starts c.in-Ok-start.ensures.taken
