-- A code means a basis: on every frame of bytes, at every age and over every memory its run is the policy.
use Rattle.std.specs.Prelude.{◌≡◌, ℕ, ◌<◌, ◌≤◌, ◌^◌, List, length, slice_index}
use Rattle.apf_coding.specs.declared.machine.FaultKind.TheVariants.{Frame}
use Rattle.apf_coding.specs.declared.machine.Why.{Why}
use Rattle.apf_coding.specs.declared.machine.Why.TheVariants as whys
use Rattle.apf_coding.specs.Run.{Run, run}
use Rattle.data_counters.specs.declared.counter.Counter.TheVariants.{TotalPackets}
use Rattle.data_counters.specs.Memory.{raised}
use Rattle.policy_state.specs.declared.basis.Basis.{Basis}
use Rattle.policy_state.specs.Whole.{Fate, Short, Missing, Says, policy, verdict_of}
use Rattle.apf_base.specs.Limits.{frame_limit, memory_size}

-- the memory that a fate leaves: a frame of more than 14 bytes raises TotalPackets, and an answer its counter
abbrev pub memory_after : Fate → List ℕ → List ℕ
memory_after Short memory = memory
memory_after Missing memory = raised TotalPackets memory
memory_after (Says verdict counter) memory = raised counter (raised TotalPackets memory)

-- why a run with this fate ends: a short frame, a frame that lacks a field, or the program's end
abbrev pub EndsBy : Fate → Why → Type 0
EndsBy Short whys.Short = Unit {0}
EndsBy Missing (whys.Fault Frame place) = Unit {0}
EndsBy (Says verdict counter) whys.Reached = Unit {0}
EndsBy fate why = ⊥

-- a run has this fate
pub record HasFate (fate : Fate) (memory : List ℕ) (r : Run) : Type 0 where
  pub verdict : r.outcome.verdict ≡ verdict_of fate
  pub left : r.memory ≡ memory_after fate memory
  pub why : EndsBy fate r.outcome.why

pub record Means (code : List ℕ) (basis : Basis) : Type 0 where
  pub means : (frame : List ℕ) (age : ℕ) (memory : List ℕ) → ((k : ℕ) → slice_index frame k < 256) → length frame ≤ frame_limit → age < 2 ^ 32 → length memory ≡ memory_size →
      HasFate (policy basis age frame) memory (run code memory frame age)
