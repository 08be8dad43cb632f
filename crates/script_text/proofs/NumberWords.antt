-- A word spells at most one number, and the function that computes finds it.
use Rattle.std.proofs.Common.{ℕ, ◌^◌, ◌<◌, List, ap, ◌∙◌}
use Rattle.plain_text.specs.Numbers.{number_within}
use Rattle.plain_text.proofs.Numerals.{number_of_is, number_of-decimal}
use Rattle.plain_text.specs.Numbers.{WritesNumber}
use Rattle.script_text.proofs.Exactness.{Exact}

pub number_exact : (limit : ℕ) (word : List ℕ) → limit < 2 ^ 64 → Exact (number_within limit word) (WritesNumber limit word)
number_exact limit word small = record {
  found = λ n e. number_of_is limit word n small e;
  only = λ n s. ap (number_within limit) s.1 ∙ number_of-decimal limit n small s.0;
}
