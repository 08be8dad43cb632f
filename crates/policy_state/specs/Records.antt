-- The line of the question on IPv6 that asks the chosen records of router advertisements (RFC 4861, section 4.2), one by
-- one in their order.
use Rattle.std.specs.Prelude.{ℕ, nat_le, Bool, ◌&&◌, List, map}
use Rattle.std.specs.List.{list_all}
use Rattle.apf_coding.specs.declared.machine.Verdict.TheVariants.{Drop}
use Rattle.data_counters.specs.declared.counter.Counter.TheVariants.{DroppedRa}
use Rattle.ra_records.specs.declared.span.Span.{Span}
use Rattle.ra_records.specs.Advert.{same, number_in}
use Rattle.policy_state.specs.declared.basis.Basis.{Basis}
use Rattle.policy_state.specs.declared.basis.Chosen.{Chosen}
use Rattle.policy_state.specs.declared.ruling.Ruling.{Ruling}
use Rattle.policy_state.specs.declared.ruling.Ruling.TheVariants.{Says}
use Rattle.policy_state.specs.Asking.{when, first_of}

-- a lifetime that stands in the frame is not below a hold
abbrev pub lasts : ℕ → List ℕ → Span → Bool
lasts hold frame lifetime = nat_le hold (number_in frame lifetime)

-- The age is not greater than the record's hold, the frame matches, and each of its lifetimes lasts. No field is missing
-- here: a frame that matches is as long as the record's.
abbrev pub advertised_again : Chosen → ℕ → List ℕ → Ruling
advertised_again chosen age frame =
    when (nat_le age chosen.hold && (same chosen.advert frame && list_all (lasts chosen.hold frame) chosen.advert.lifetimes)) (Says Drop DroppedRa)

-- the first record that answers
abbrev pub repeated_advertisements : Basis → ℕ → List ℕ → Ruling
repeated_advertisements basis age frame = first_of (map (λ chosen. advertised_again chosen age frame) basis.chosen)
