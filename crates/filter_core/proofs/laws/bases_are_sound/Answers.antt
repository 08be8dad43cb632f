use Rattle.filter_core.proofs.SoundBases.{bases_sound, bases_room}
use Rattle.filter_core.proofs.laws.bases_are_sound.Goals as goal

pub returns : goal.returns
returns c = record { sound = bases_sound; room = bases_room }
