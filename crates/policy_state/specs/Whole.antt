-- The policy of whole frames.
use Rattle.std.specs.Prelude.{ℕ, nat_lt, if◌then◌else◌, List, length, Option, Some, None}
use Rattle.apf_coding.specs.declared.machine.Verdict.{Verdict}
use Rattle.apf_coding.specs.declared.machine.Verdict.TheVariants.{Pass}
use Rattle.data_counters.specs.declared.counter.Counter.{Counter}
use Rattle.policy_state.specs.declared.basis.Basis.{Basis}
use Rattle.policy_state.specs.declared.ruling.Ruling.{Ruling}
use Rattle.policy_state.specs.declared.ruling.Ruling.TheVariants as rulings
use Rattle.policy_state.specs.Asking.{first_of}
use Rattle.policy_state.specs.Policy.{questions}

-- A frame has no Ethernet header with bytes behind it, or lacks a field that a question reads, or gets a verdict and a counter that says why.
pub data Fate : Type 0 where
  Short : Fate
  Missing : Fate
  Says : Verdict → Counter → Fate

-- The last question is never silent.
abbrev pub fate_of : Ruling → Fate
fate_of rulings.Missing = Missing
fate_of rulings.Silent = Missing
fate_of (rulings.Says verdict counter) = Says verdict counter

-- the first answer, at a basis, at an age in seconds, of a frame
abbrev pub policy : Basis → ℕ → List ℕ → Fate
policy basis age frame = if nat_lt 14 (length frame) then fate_of (first_of (questions basis age frame)) else Short

-- Without an answer a frame passes, and no counter says why.
abbrev pub verdict_of : Fate → Verdict
verdict_of Short = Pass
verdict_of Missing = Pass
verdict_of (Says verdict counter) = verdict

abbrev pub counter_of_fate : Fate → Option Counter
counter_of_fate Short = None
counter_of_fate Missing = None
counter_of_fate (Says verdict counter) = Some counter
