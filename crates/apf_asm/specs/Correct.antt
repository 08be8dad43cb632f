-- The bytes run as the items flow.
use Rattle.std.specs.Prelude.{◌≡◌, ℕ, ◌+◌, ◌<◌, List, length, slice_index}
use Rattle.apf_coding.specs.declared.machine.Why.{Why}
use Rattle.apf_coding.specs.declared.machine.Why.TheVariants as whys
use Rattle.apf_coding.specs.Run.{Run, run, first_state}
use Rattle.apf_asm.specs.declared.item.Item.{Item}
use Rattle.apf_asm.specs.Flow.{Ending, Reached, Stopped, Flow, flow}

-- a flow that stops at an item is a run that stops at its place
abbrev pub why_of : List ℕ → Ending → Why
why_of places Reached = whys.Reached
why_of places (Stopped kind item) = whys.Fault kind (slice_index places item)

-- a flow as a run, after some steps, where the items have these places
abbrev pub run_of : List ℕ → ℕ → Flow → Run
run_of places steps f = record { outcome = record { verdict = f.verdict; steps = steps + f.steps; why = why_of places f.ending }; memory = f.memory }

-- for every memory, every frame of more than 14 bytes and every age
abbrev pub RunsAs : List Item → List ℕ → List ℕ → Type 0
RunsAs items bytes places =
    (memory frame : List ℕ) (age : ℕ) → 14 < length frame →
    run bytes memory frame age ≡ run_of places 0 (flow items (length bytes) frame (first_state bytes memory frame age))
