-- A text that isn't a script: which of its lines is the first fault.
use Rattle.std.specs.Prelude.{◌≡◌, ◌⊎◌, ℕ, zero, suc, ◌+◌, ◌<◌, Bool, List, ◌∷◌, ◌++◌, length, map, Any}
use Rattle.policy_state.specs.declared.basis.Timed.{Timed}
use Rattle.script_text.specs.declared.script_error.ScriptKind.{ScriptKind}
use Rattle.script_text.specs.declared.script_error.ScriptKind.TheVariants.{Form, Order, End}
use Rattle.plain_text.specs.Lines.{lines_of}
use Rattle.policy_state.specs.Ranges.{IsMac}
use Rattle.script_text.specs.ScriptLines.{Contents, version_line, mac_line, capacity_line, start_line, drop_line, deny_line, event_line, lines_saying, IsCapacity, IsDeny, IsWordNumber, IsEvent, kept_lines}
use Rattle.script_text.specs.Scripts.{IsSoundScript}

-- the line is of the form of its place, which is the number of lines before it that aren't skipped
abbrev pub IsOfForm : ℕ → List ℕ → Type 0
IsOfForm zero line = line ≡ version_line
IsOfForm (suc zero) line = (mac : List ℕ) × IsMac mac × (line ≡ mac_line mac)
IsOfForm (suc (suc zero)) line = (n : ℕ) × IsCapacity n × (line ≡ capacity_line n)
IsOfForm (suc (suc (suc zero))) line = (n : ℕ) × IsWordNumber n × (line ≡ start_line n)
IsOfForm (suc (suc (suc (suc zero)))) line = (on : Bool) × (line ≡ drop_line on)
IsOfForm (suc (suc (suc (suc (suc zero))))) line = (deny : List ℕ) × IsDeny deny × (line ≡ deny_line deny)
IsOfForm (suc (suc (suc (suc (suc (suc place)))))) line = (e : Timed) × IsEvent e × (line ≡ event_line e)

-- the lines are the first of a script, or all of them
pub record BeginsScript (lines : List (List ℕ)) : Type 0 where
  pub script : Contents
  pub sound : IsSoundScript script
  pub later : List (List ℕ)
  pub lines_are : lines_saying script ≡ lines ++ later

-- an event that is earlier than the start or than one of these events
abbrev pub IsLate : ℕ → List Timed → Timed → Type 0
IsLate start events e = (e.time < start) ⊎ Any (λ earlier. e.time < earlier.time) events

-- the line doesn't follow these, for this cause
abbrev pub FaultAfter : ScriptKind → List (List ℕ) → List ℕ → Type 0
FaultAfter Form before line = BeginsScript before × ¬ IsOfForm (length before) line
FaultAfter Order before line = (c : Contents) × (e : Timed) × IsSoundScript c × (before ≡ lines_saying c) × IsEvent e × (line ≡ event_line e) × IsLate c.start c.events e
FaultAfter End before line = ⊥

-- a line of the text is the first that doesn't follow those before it
pub record FaultsAt (text : List ℕ) (number : ℕ) (kind : ScriptKind) : Type 0 where
  pub before : List (ℕ × List ℕ)
  pub line : List ℕ
  pub after : List (ℕ × List ℕ)
  pub lines_are : kept_lines text ≡ before ++ (number, line) ∷ after
  pub fault : FaultAfter kind (map (λ l. l.1) before) line

-- the text ends before the sixth of the first lines
pub record EndsEarly (text : List ℕ) (number : ℕ) : Type 0 where
  pub begun : BeginsScript (map (λ l. l.1) (kept_lines text))
  pub few : length (kept_lines text) < 6
  pub number_is : number ≡ length (lines_of text) + 1

-- the first fault of a text
abbrev pub ScriptRefuses : List ℕ → ℕ → ScriptKind → Type 0
ScriptRefuses text number Form = FaultsAt text number Form
ScriptRefuses text number Order = FaultsAt text number Order
ScriptRefuses text number End = EndsEarly text number
