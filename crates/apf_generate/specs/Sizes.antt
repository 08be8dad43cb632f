-- The most bytes that a program for a basis has.
use Rattle.std.specs.Prelude.{ℕ, ◌+◌, List}
use Rattle.std.specs.List.{sum_by}
use Rattle.policy_state.specs.declared.basis.Basis.{Basis}
use Rattle.policy_state.specs.declared.basis.Chosen.{Chosen}
use Rattle.size_fit.specs.Sizes.{base, weight}

-- those of all chosen records
abbrev pub weights : List Chosen → ℕ
weights chosen = sum_by (λ one. weight one.advert) chosen

-- its base, and the weights of its chosen records
abbrev pub need_of : Basis → ℕ
need_of basis = base basis.config basis.state + weights basis.chosen
