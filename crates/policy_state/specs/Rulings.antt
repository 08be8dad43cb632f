-- Rulings of the policy, as what items say.
use Rattle.data_counters.specs.Counters.{number_of}
use Rattle.policy_state.specs.declared.ruling.Ruling.{Ruling}
use Rattle.policy_state.specs.declared.ruling.Ruling.TheVariants as rulings
use Rattle.apf_coding.specs.Said.{Said, Missing, Says, Silent}

-- a counter is said by its number
abbrev pub said_of : Ruling → Said
said_of rulings.Missing = Missing
said_of (rulings.Says verdict counter) = Says verdict (number_of counter)
said_of rulings.Silent = Silent
