use Rattle.std.proofs.Common.{rules}
use Rattle.program_swap.proofs.Keeping.{forks, merges}
use Rattle.program_swap.proofs.place.Place.inform.Goals as goal

pub tell-requires : goal.tell-requires
tell-requires c = forks _ _

pub learn-requires : goal.learn-requires
learn-requires c = record { own = search rules; rule = merges _ _ _ _ }
