-- What the calls of a lane say.
use Rattle.std.specs.Prelude.{◌≡◌, ℕ, ◌+◌, ◌<◌, ◌≤◌, List, [], ◌∷◌, ◌++◌, replicate, Some}
use mathlib.Core.List.{IsPrefix}
use Rattle.logbook.specs.Pages.{Book}
use Rattle.filter_core.specs.declared.install.Install.{Install}
use Rattle.policy_state.specs.declared.basis.Answer.{Answer}
use Rattle.apf_base.specs.Limits.{memory_size}
use Rattle.filter_core.specs.Coded.{IsAnswer}
use Rattle.program_swap.specs.Histories.{HasLast, history}
use Rattle.program_swap.specs.Order.{LaneState}
use Rattle.program_swap.specs.Board.{ReadsOn}

-- a lane that has read these installs and answered nothing
abbrev pub fresh_lane : Book → List Install → ℕ → LaneState
fresh_lane b is room = record {
  board = b;
  view = is;
  read = Some (history b is);
  answers = [];
  memory = replicate memory_size 0;
  spare = room;
  entered = 0;
  refused = 0;
}

abbrev pub with_refusals : ℕ → LaneState → LaneState
with_refusals n l = record l { refused = n }

-- the frame was answered by the last install of the new view, over the lane's memory
pub record HasAnswered (l : LaneState) (frame : List ℕ) (now : ℕ) (m : LaneState) (a : Answer) : Type 0 where
  pub board : m.board ≡ l.board
  pub entered : m.entered ≡ l.entered + 1
  pub refused : (l.refused ≤ m.refused) × (m.refused < l.refused + 1000)
  pub view : IsPrefix l.view m.view
  pub read : m.read ≡ Some (history m.board m.view)
  pub by : Install
  pub last : HasLast m.view by
  pub answered : IsAnswer by frame now l.memory a m.memory
  pub kept : m.answers ≡ l.answers ++ a ∷ []
  pub spare : m.spare + 1 ≡ l.spare

-- the view goes on from what was read and from what was told, and all else stays
pub record HasLearnt (l : LaneState) (told : List Install) (m : LaneState) : Type 0 where
  pub view : IsPrefix l.view m.view
  pub knows : IsPrefix told m.view
  pub read : m.read ≡ Some (history m.board m.view)
  pub refused : (l.refused ≤ m.refused) × (m.refused < l.refused + 1000)
  pub board : m.board ≡ l.board
  pub entered : m.entered ≡ l.entered
  pub answers : m.answers ≡ l.answers
  pub memory : m.memory ≡ l.memory
  pub spare : m.spare ≡ l.spare

-- all stays but the count, and what the place read last, which may have gone on and was older than the token
pub record HasNotLearnt (l m : LaneState) : Type 0 where
  pub rest : m ≡ record l { refused = l.refused + 1000; read = m.read }
  pub follows : ReadsOn l.read m.read
