-- The policy's rulings as a language.
use Rattle.std.proofs.Common.{◌≡◌, refl, arith}
use Rattle.data_counters.specs.declared.counter.Counter.{Counter}
use Rattle.data_counters.specs.Counters.{number_of}
use Rattle.data_counters.proofs.Apart.{IsCounterNumber, number_of-range}
use Rattle.policy_state.specs.declared.ruling.Ruling.{Ruling}
use Rattle.policy_state.specs.declared.ruling.Ruling.TheVariants.{Missing, Says, Silent}
use Rattle.policy_state.specs.Asking.{otherwise}
use Rattle.apf_coding.proofs.Language.{Language, HasWord, said_first}
use Rattle.policy_state.specs.Rulings.{said_of}

pub said-otherwise : (a b : Ruling) → said_of (otherwise a b) ≡ said_first (said_of a) (said_of b)
said-otherwise Silent b = refl
said-otherwise Missing b = refl
said-otherwise (Says verdict counter) b = refl

pub has_word : (c : Counter) → HasWord (number_of c)
has_word c = let range : IsCounterNumber (number_of c) = number_of-range c in record { least = omega (arith, range.least); most = omega (arith, range.most) }

abbrev pub rulings : Language Ruling Counter
rulings = record {
  said = said_of;
  number = number_of;
  missing = Missing;
  silent = Silent;
  says = Says;
  otherwise = otherwise;
  said-missing = refl;
  said-silent = refl;
  said-says = λ verdict c. refl;
  said-otherwise = said-otherwise;
  has_word = has_word;
}
