use Rattle.filter_core.proofs.Numbering.{replay_by_last, replay_below}
use Rattle.filter_core.proofs.laws.answers_are_by_the_last_install.Goals as goal

pub returns : goal.returns
returns c = record { last = replay_by_last; below = replay_below }
