-- Scripts: which text says what.
use Rattle.std.specs.Prelude.{◌≡◌, ℕ, ◌≤◌, List, map, All}
use Rattle.std.specs.List.{AllPairs}
use Rattle.policy_state.specs.declared.basis.Timed.{Timed}
use Rattle.policy_state.specs.declared.basis.Script.{Script}
use Rattle.policy_state.specs.Ranges.{IsMac}
use Rattle.script_text.specs.ScriptLines.{Contents, contents_of, lines_saying, IsCapacity, IsDeny, IsWordNumber, IsEvent, kept_lines}

-- no event is earlier than the start or than an event before it
pub record IsInOrder (start : ℕ) (events : List Timed) : Type 0 where
  pub begun : All (λ e. start ≤ e.time) events
  pub risen : AllPairs (λ earlier later. earlier.time ≤ later.time) events

-- the values are in their ranges, and the events in their order
pub record IsSoundScript (c : Contents) : Type 0 where
  pub mac : IsMac c.mac
  pub capacity : IsCapacity c.capacity
  pub start : IsWordNumber c.start
  pub deny : IsDeny c.deny
  pub events : All IsEvent c.events
  pub order : IsInOrder c.start c.events

-- ---- a text that is a script

-- the lines of the text, but for those that are skipped, are those that say this
pub record Says (text : List ℕ) (c : Contents) : Type 0 where
  pub sound : IsSoundScript c
  pub lines : map (λ l. l.1) (kept_lines text) ≡ lines_saying c

-- the text is that of the script
abbrev pub IsScriptText : List ℕ → Script → Type 0
IsScriptText text script = Says text (contents_of script)
