use Rattle.command_plan.proofs.Fetching.{asked_fits}
use Rattle.code_commands.proofs.assembling.asm.Goals as goal

pub assembled-requires : goal.assembled-requires
assembled-requires g c = asked_fits _ _ _ _ _ _ c.as_slice.ensures c.in_ok-bytes.ensures
