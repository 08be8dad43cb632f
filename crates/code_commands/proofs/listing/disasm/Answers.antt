use Rattle.command_plan.proofs.Fetching.{asked_fits}
use Rattle.code_commands.proofs.listing.disasm.Goals as goal

pub write_listing-requires : goal.write_listing-requires
write_listing-requires g c = asked_fits _ _ _ _ _ _ c.as_slice.ensures c.in_ok-code.ensures
