use Rattle.policy_state.specs.Whole.{verdict_of}
use Rattle.filter_core.specs.Replay.{passes}
use Rattle.filter_core.specs.Steps.{Answered}
use Rattle.filter_core.proofs.Totals.{story_and_ending, counted_or_not, others_few}
use Rattle.filter_core.proofs.laws.replays_add_up.Goals as goal

pub returns-clause-story : goal.returns-clause-story
returns-clause-story c = story_and_ending

pub returns-clause-frames : goal.returns-clause-frames
returns-clause-frames c = counted_or_not (λ (a : Answered). passes (verdict_of a.fate))

pub returns-clause-counters : goal.returns-clause-counters
returns-clause-counters c = others_few
