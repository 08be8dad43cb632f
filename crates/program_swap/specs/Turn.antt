-- What a place says of one frame.
use Rattle.std.specs.Prelude.{◌≡◌, ℕ, ◌+◌, ◌<◌, ◌≤◌, ◌^◌, ◌-◌, min, List, Some}
use Rattle.left_right.specs.Sides.{view}
use Rattle.filter_core.specs.declared.install.Install.{Install}
use Rattle.filter_core.specs.Coded.{IsAnswer}
use Rattle.program_swap.specs.Histories.{history, HasLast, RisesByOne}
use Rattle.program_swap.specs.Board.{ReadsOn, ReachesNumber}
use Rattle.program_swap.specs.declared.place.Place.{Place}
use Rattle.program_swap.specs.declared.turn.Turned.{Turned}
use Rattle.logbook.specs.declared.tokens.Seen.{Seen}
use Rattle.program_swap.specs.declared.history.HistoryRule.{HistoryRule}

-- the frame was answered by the last install of what was read
pub record HasRun (p : Place) (frame : List ℕ) (now : ℕ) (memory : List ℕ) (q : Place) (t : Turned) : Type 0 where
  pub entered : q.entered ≡ min (p.entered + 1) (2 ^ 64 - 1)
  pub refused : (p.refused ≤ q.refused) × (q.refused < p.refused + 1000)
  pub follows : ReadsOn (view p.reader.place) (view q.reader.place)
  pub read : view q.reader.place ≡ Some (history t.known.book t.known.log)
  pub rising : RisesByOne t.known.log
  pub by : Install
  pub last : HasLast t.known.log by
  pub answer : IsAnswer by frame now memory t.answer t.memory

-- nothing was read
pub record WasRefused (p : Place) (least : ℕ) (q : Place) : Type 0 where
  pub entered : q.entered ≡ p.entered
  pub refused : q.refused ≡ p.refused + 1000
  pub follows : ReadsOn (view p.reader.place) (view q.reader.place)
  pub same : least ≡ 0 → view q.reader.place ≡ view p.reader.place

-- an install of this number or a later one was read
pub record HasRead (p : Place) (least : ℕ) (q : Place) (f : Seen Install ℕ HistoryRule) : Type 0 where
  pub entered : q.entered ≡ p.entered
  pub refused : (p.refused ≤ q.refused) × (q.refused < p.refused + 1000)
  pub follows : ReadsOn (view p.reader.place) (view q.reader.place)
  pub read : view q.reader.place ≡ Some (history f.book f.log)
  pub rising : RisesByOne f.log
  pub from : ReachesNumber least (history f.book f.log)
