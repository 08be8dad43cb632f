-- How many bytes a program needs at most, part by part. The numbers are this project's own.
use Rattle.std.specs.Prelude.{ℕ, ◌+◌, ◌-◌, ◌*◌, length, is_some}
use Rattle.std.specs.List.{sum_by, count_by}
use Rattle.policy_state.specs.Weights.{base_weight, denied_weight, keepalive_weight, record_weight, comparison_weight, lifetime_weight}
use Rattle.policy_state.specs.declared.config.Config.{Config}
use Rattle.policy_state.specs.declared.state.FilterState.{FilterState}
use Rattle.ra_records.specs.declared.span.Span.{Span}
use Rattle.ra_records.specs.Advert.{Advert, sections}
use Rattle.apf_base.specs.Limits.{memory_size}

-- the base, and more for each denied ethertype and each keepalive
abbrev pub base_for : ℕ → ℕ → ℕ
base_for denied keepalives = base_weight + denied_weight * denied + keepalive_weight * keepalives

abbrev pub base : Config → FilterState → ℕ
base config state = base_for (length config.deny) (count_by is_some state.keepalives)

-- a comparison of so many bytes
abbrev pub section_weight : Span → ℕ
section_weight section = comparison_weight + section.len

-- a record, with its sections and its lifetimes
abbrev pub weight : Advert → ℕ
weight r = record_weight + sum_by section_weight (sections r) + lifetime_weight * length r.lifetimes

-- what a device has for a program: all but the bytes of the memory
abbrev pub limit_for : ℕ → ℕ
limit_for capacity = capacity - memory_size

abbrev pub limit_of : Config → ℕ
limit_of config = limit_for config.capacity
