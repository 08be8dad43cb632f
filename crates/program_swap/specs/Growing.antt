-- The rule of the history, and what a step tells.
use Rattle.std.specs.Prelude.{ℕ, ◌≡◌, ◌+◌, ◌==◌, true, List, [], ◌∷◌, ◌++◌, length, MatchBool}
use Rattle.logbook.specs.Pages.{Cell, Step, View, Book, Named}
use Rattle.filter_core.specs.declared.install.Install.{Install}
use Rattle.program_swap.specs.Histories.{RisesByOne}

-- the word is one less than the length of the history
pub record CountsInstalls (cells : List Cell) (log : List Install) : Type 0 where
  pub above : ℕ
  pub words : cells ≡ (above, true) ∷ []
  pub counted : length log ≡ above + 1
  pub rising : RisesByOne log

abbrev pub head_word : Book → Named
head_word b = record { tracked = true; key = 0; book = b }

-- the install was added to all that had been seen; or the history was longer, and was seen
abbrev pub AddsInstall : Step Install → View Install ℕ → ℕ → View Install ℕ → Type 0
AddsInstall s v found w = MatchBool (found == s.old) (w.0 ≡ v.0 ++ s.ask ∷ []) (length w.0 ≡ found + 1)
