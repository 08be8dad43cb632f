-- Items that answer the policy's questions.
use Rattle.std.specs.Prelude.{◌≡◌, ℕ, ◌+◌, ◌*◌, ◌≤◌, List, ◌++◌, length, map, count_by, is_some}
use Rattle.apf_asm.specs.declared.item.Item.{Item}
use Rattle.policy_state.specs.declared.basis.Basis.{Basis}
use Rattle.policy_state.specs.declared.basis.Chosen.{Chosen}
use Rattle.policy_state.specs.Asking.{first_of}
use Rattle.policy_state.specs.Policy.{ip6, questions}
use Rattle.policy_state.specs.Records.{advertised_again}
use Rattle.apf_asm.specs.Fragment.{IsPart}
use Rattle.apf_coding.specs.Said.{Said}
use Rattle.policy_state.specs.Rulings.{said_of}
use Rattle.apf_generate.specs.Listing.{between_ends}
use Rattle.apf_generate.specs.Sizes.{weights}
use Rattle.policy_state.specs.Rooms.{arp_room, ip4_room, ip6_room, last_room, link_room}
use Rattle.policy_state.specs.Weights.{denied_weight, keepalive_weight}

-- what the policy says of a frame of more than 14 bytes
abbrev pub asked : Basis → ℕ → List ℕ → Said
asked basis age frame = said_of (first_of (questions basis age frame))

-- A call that raises the next label from one number to another adds the fragments of these records to a list.
pub record AddsRecords (chosen : List Chosen) (from to : ℕ) (old new : List Item) : Type 0 where
  pub rules : List Item
  pub appended : new ≡ old ++ rules
  pub part : IsPart (λ age frame. said_of (first_of (map (λ one. advertised_again one age frame) chosen))) from to (weights chosen) rules
  pub few : to ≤ from + 64 * length chosen

-- A call that raises the next label from one number to another adds items that answer the question on IPv6 to a list.
pub record AddsIp6 (basis : Basis) (from to : ℕ) (old new : List Item) : Type 0 where
  pub question : List Item
  pub appended : new ≡ old ++ question
  pub part : IsPart (λ age frame. said_of (ip6 basis age frame)) from to (ip6_room + weights basis.chosen) question
  pub few : to ≤ from + 65 + 64 * length basis.chosen

-- The most bytes of the items that answer the questions. The opening and the two ends have `ends_room` more.
abbrev pub most_asked : Basis → ℕ
most_asked basis = link_room + arp_room + ip4_room + ip6_room + last_room + denied_weight * length basis.config.deny + keepalive_weight * count_by is_some basis.state.keepalives + weights basis.chosen

-- items that answer all questions, with their labels from 2 on
pub record HoldsQuestions (basis : Basis) (xs : List Item) : Type 0 where
  pub to : ℕ
  pub few : to ≤ 100000
  pub part : IsPart (asked basis) 2 to (most_asked basis) xs

-- the items of a whole program
pub record IsProgram (basis : Basis) (xs : List Item) : Type 0 where
  pub questions : List Item
  pub holds : HoldsQuestions basis questions
  pub whole : xs ≡ between_ends questions
