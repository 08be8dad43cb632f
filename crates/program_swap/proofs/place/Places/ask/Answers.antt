use Rattle.program_swap.proofs.Keeping.{admits}
use Rattle.program_swap.proofs.place.Places.ask.Goals as goal

pub reader-requires : goal.reader-requires
reader-requires c = admits
