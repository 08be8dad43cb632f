-- Words that are compared.
use Rattle.std.proofs.Common.{◌≡◌, ℕ, List, true}
use Rattle.std.specs.Str.{bytes_eq}
use Rattle.std.proofs.lemmas.Slice.Eq.{bytes_eq-Decides}

pub equal_words : (a b : List ℕ) → bytes_eq a b ≡ true → a ≡ b
equal_words a b e = (bytes_eq-Decides a b).0 e
