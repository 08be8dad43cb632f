use Rattle.data_counters.proofs.Apart.{value_of-same, value_of-other, byte-raised, length-raised}
use Rattle.data_counters.proofs.laws.raising_changes_one_word.Goals as goal

pub returns-clause-same : goal.returns-clause-same
returns-clause-same c = value_of-same

pub returns-clause-others : goal.returns-clause-others
returns-clause-others c = value_of-other

pub returns-clause-bytes : goal.returns-clause-bytes
returns-clause-bytes c = byte-raised

pub returns-clause-length : goal.returns-clause-length
returns-clause-length c = length-raised
