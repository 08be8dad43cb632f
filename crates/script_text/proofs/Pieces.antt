-- The pieces of a line, written from the end on and from the front on.
use Rattle.std.proofs.Common.{◌≡◌, ℕ, List, [], ◌++◌, ap, ◌∙◌, append_assoc}

pub pieces-5 : (a b c d e : List ℕ) → a ++ (b ++ (c ++ (d ++ e))) ≡ a ++ b ++ c ++ d ++ e
pieces-5 a b c d e = simp append_assoc

pub pieces-9 : (a b c d e f g h i : List ℕ) → a ++ (b ++ (c ++ (d ++ (e ++ (f ++ (g ++ (h ++ i))))))) ≡ a ++ b ++ c ++ d ++ e ++ f ++ g ++ h ++ i
pieces-9 a b c d e f g h i = simp append_assoc

pub pieces-11 : (a b c d e f g h i j k : List ℕ) → a ++ (b ++ (c ++ (d ++ (e ++ (f ++ (g ++ (h ++ (i ++ (j ++ k))))))))) ≡ a ++ b ++ c ++ d ++ e ++ f ++ g ++ h ++ i ++ j ++ k
pieces-11 a b c d e f g h i j k = simp append_assoc

-- Fourteen pieces are written as twelve and two.
pub pieces-14 : (a b c d e f g h i j k l m n : List ℕ) → (a ++ (b ++ (c ++ (d ++ (e ++ (f ++ (g ++ (h ++ (i ++ (j ++ (k ++ l))))))))))) ++ (m ++ n) ≡ a ++ b ++ c ++ d ++ e ++ f ++ g ++ h ++ i ++ j ++ k ++ l ++ m ++ n
pieces-14 a b c d e f g h i j k l m n = simp append_assoc

-- what is appended to nothing stands alone
pub onto_nothing : (old added new : List ℕ) → new ≡ old ++ added → old ≡ [] → new ≡ added
onto_nothing old added new e h = e ∙ ap (λ (t : List ℕ). t ++ added) h
