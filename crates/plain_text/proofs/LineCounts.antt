-- A text has no more lines than bytes.
use Rattle.std.proofs.Common.{◌≤◌, ℕ, suc, Bool, true, false, List, [], ◌∷◌, length, arith}
use Rattle.std.specs.Prelude.{◌==◌, if◌then◌else◌}
use Rattle.std.specs.List.{onto_first}
use Rattle.plain_text.specs.Lines.{lines_of}

onto_few : (b : ℕ) (lines : List (List ℕ)) → length (onto_first b lines) ≤ suc (length lines)
onto_few b [] = omega arith
onto_few b (line ∷ lines) = omega arith

feed_few : (feed : Bool) (b : ℕ) (lines : List (List ℕ)) → length (if feed then [] ∷ lines else onto_first b lines) ≤ suc (length lines)
feed_few true b lines = omega arith
feed_few false b lines = onto_few b lines

pub lines_few : (text : List ℕ) → length (lines_of text) ≤ length text
lines_few [] = omega arith
lines_few (b ∷ rest) = omega (arith, lines_few rest, feed_few (b == 10) b (lines_of rest))
