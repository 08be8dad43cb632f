-- What it is for items to say something of a frame.
use Rattle.std.specs.Prelude.{◌≡◌, ℕ, ◌+◌, ◌-◌, ◌*◌, ◌<◌, ◌^◌, List, ◌∷◌, [], ◌++◌, length, replicate, slice_index, Option, Some, None}
use Rattle.apf_coding.specs.declared.machine.Verdict.{Verdict}
use Rattle.apf_coding.specs.declared.machine.FaultKind.{FaultKind}
use Rattle.apf_coding.specs.declared.machine.FaultKind.TheVariants.{Frame}
use Rattle.apf_coding.specs.Meaning.{State}
use Rattle.apf_coding.specs.Run.{header_length}
use Rattle.apf_coding.specs.Said.{Said, Missing, Says, Silent}
use Rattle.apf_asm.specs.declared.item.Item.{Item}
use Rattle.apf_asm.specs.Flow.{Ending, Reached, Stopped, Flow, stopped, flow, flow_at}
use Rattle.apf_asm.specs.Building.{label_of}
use Rattle.apf_base.specs.Limits.{memory_size}

-- ---- where a flow ends, whatever it takes to come there

pub record End : Type 0 where
  pub verdict : Verdict
  pub fault : Option FaultKind
  pub memory : List ℕ

abbrev pub ending_fault : Ending → Option FaultKind
ending_fault Reached = None
ending_fault (Stopped kind item) = Some kind

abbrev pub flow_end : Flow → End
flow_end f = record { verdict = f.verdict; fault = ending_fault f.ending; memory = f.memory }

-- ---- what is said, as where a flow goes on

-- a machine with other registers
abbrev pub with_registers : ℕ → ℕ → State → State
with_registers r0 r1 m = record m { r0 = r0; r1 = r1 }

-- what R1 holds where a counter is to be raised: minus four times its number
abbrev pub counted : ℕ → ℕ
counted number = 2 ^ 32 - 4 * number

-- Items that stand before the rest, and say this, come to an end so. With an answer they go on at the label of its
-- verdict in the rest, with R1 as the counter asks. Where a field is missing, that is the fault. Else they go on with the
-- rest. Slots and memory stay, and only the registers may differ.
abbrev pub FollowsSaid : Said → List Item → ℕ → List ℕ → State → End → Type 0
FollowsSaid (Says verdict number) rest n frame m end = (r0 : ℕ) × (end ≡ flow_end (flow_at (label_of verdict) rest n frame (with_registers r0 (counted number) m)))
FollowsSaid Missing rest n frame m end = end ≡ flow_end (stopped Frame m)
FollowsSaid Silent rest n frame m end = (r0 : ℕ) × ((r1 : ℕ) × (end ≡ flow_end (flow rest n frame (with_registers r0 r1 m))))

-- the slots of a run's first state, with a memory of 128 bytes behind a program of n
abbrev pub slots_of : ℕ → List ℕ → ℕ → List ℕ
slots_of n frame age = replicate 11 0 ++ (n ∷ (n + memory_size) ∷ header_length frame ∷ length frame ∷ age ∷ [])

-- a machine as it stands before a rule: any registers, the first slots, a memory of 128 bytes, a frame of bytes that is asked of
pub record IsReady (n : ℕ) (frame : List ℕ) (age : ℕ) (m : State) : Type 0 where
  pub long : 14 < length frame
  pub bytes : (k : ℕ) → slice_index frame k < 256
  pub slots : m.slots ≡ slots_of n frame age
  pub memory : length m.memory ≡ memory_size

-- the items say this of every frame at every age, whatever stands behind them
pub record TellsSaid (said : ℕ → List ℕ → Said) (xs : List Item) : Type 0 where
  pub tells : (n : ℕ) (frame : List ℕ) (age : ℕ) (m : State) (rest : List Item) → IsReady n frame age m →
      FollowsSaid (said age frame) rest n frame m (flow_end (flow (xs ++ rest) n frame m))
