-- What lanes do with the frames that they are dealt, beside installs, and what they leave at their end.
use Rattle.std.specs.Prelude.{◌≡◌, ℕ, ◌+◌, ◌^◌, ◌<◌, ◌≤◌, suc, List, [], ◌∷◌, ◌++◌, length, Option, IfSome, IfNone, Result, Ok}
use mathlib.Core.List.{IsPrefix}
use Rattle.logbook.specs.Pages.{Book}
use Rattle.dealt_items.specs.Dealing.{every}
use Rattle.filter_core.specs.Arrivals.{arrivals_of}
use Rattle.filter_core.specs.Lanes.{clocked, LaneRuns}
use Rattle.filter_core.specs.declared.install.Install.{Install}
use Rattle.filter_core.specs.Replay.{Arrival}
use Rattle.pcap_files.specs.declared.kinds.Placed.{Placed}
use Rattle.policy_state.specs.declared.basis.Answer.{Answer}
use Rattle.program_swap.specs.Histories.{RisesByOne, History, history, InstallerState}
use Rattle.program_swap.specs.Lanes.{fresh_lane, HasAnswered}
use Rattle.program_swap.specs.Order.{LaneState, EndState}
use Rattle.program_swap.specs.declared.ending.DriveError.{DriveError}

-- the frames that a lane is dealt, each at the greatest second so far
abbrev pub turns_of : ℕ → ℕ → List Arrival → List Arrival
turns_of wait others arrivals = clocked 0 (every wait others arrivals)

-- those of the records of a capture
abbrev pub dealt_frames : ℕ → ℕ → List ℕ → List Placed → List Arrival
dealt_frames wait others capture records = turns_of wait others (arrivals_of capture records)

-- the lane answered these frames, in order
abbrev pub AnswersAll : LaneState → List Arrival → LaneState → Type 0
AnswersAll l [] m = m ≡ l
AnswersAll l (x ∷ later) m = (next : LaneState) × (a : Answer) × HasAnswered l x.frame x.second next a × AnswersAll next later m

-- the lane has room for these frames, and was seldom refused
abbrev pub MayAnswer : List Arrival → LaneState → Type 0
MayAnswer arrivals l = (length arrivals ≤ l.spare) × (l.refused < 2 ^ 62)

-- the lane has answered all of these frames; or fewer, and was refused an entry 1,000 times
pub record HasDone (l : LaneState) (arrivals : List Arrival) (m : LaneState) : Type 0 where
  pub board : m.board ≡ l.board
  pub entered : m.entered ≤ l.entered + length arrivals
  pub refused : l.refused ≤ m.refused
  pub seldom : m.refused < 2 ^ 63
  pub whole : m.entered ≡ l.entered + length arrivals → AnswersAll l arrivals m
  pub short : m.entered < l.entered + length arrivals → l.refused + 1000 ≤ m.refused

-- each lane, from one on, has done with the frames that it was dealt
abbrev pub AreDone : List LaneState → ℕ → ℕ → List Arrival → List LaneState → Type 0
AreDone [] hand others arrivals [] = Unit {0}
AreDone (l ∷ ls) hand others arrivals (m ∷ ms) = HasDone l (turns_of hand others arrivals) m × AreDone ls (suc hand) others arrivals ms
AreDone ls hand others arrivals ms = ⊥

-- these were published in order, and the token tells of the last
pub record HasInstalled (old : InstallerState) (nexts : List Install) (new : InstallerState) (token : Option History) : Type 0 where
  pub published : new ≡ record old { published = old.published ++ nexts }
  pub told : IfSome token (λ t. t ≡ history new.board new.published)
  pub none : IfNone token (nexts ≡ [])

-- ---- the end

-- the lane may learn the token, where there is one
abbrev pub MayEnd : Option History → LaneState → Type 0
MayEnd token l = IfSome token (λ t. t.board ≡ l.board) × (l.refused < 2 ^ 63)

-- the lane knows what the token tells, where there is one, and keeps what it answered
pub record Knows (token : Option History) (l m : LaneState) : Type 0 where
  pub board : m.board ≡ l.board
  pub view : IsPrefix l.view m.view
  pub told : IfSome token (λ t. IsPrefix t.installs m.view)
  pub answers : m.answers ≡ l.answers
  pub memory : m.memory ≡ l.memory
  pub entered : m.entered ≡ l.entered

-- the end of a lane that has learnt the token, where there is one
pub record IsEnd (token : Option History) (l : LaneState) (e : EndState) : Type 0 where
  pub board : e.board ≡ l.board
  pub view : IsPrefix l.view e.view
  pub told : IfSome token (λ t. IsPrefix t.installs e.view)
  pub rising : RisesByOne e.view
  pub answers : e.answers ≡ l.answers
  pub memory : e.memory ≡ l.memory
  pub entered : e.entered ≡ l.entered
  pub counted : e.entered ≡ length e.answers

-- the lane's end joined those before it
pub record AddsEnd (token : Option History) (l : LaneState) (ends : Result (List EndState) DriveError) (now : List EndState) : Type 0 where
  pub before : List EndState
  pub end : EndState
  pub were : ends ≡ Ok before
  pub ended : IsEnd token l end
  pub are : now ≡ before ++ end ∷ []

-- an end for each lane, in their order
abbrev pub AreEnded : Option History → List LaneState → List EndState → Type 0
AreEnded token [] [] = Unit {0}
AreEnded token (l ∷ ls) (e ∷ es) = IsEnd token l e × AreEnded token ls es
AreEnded token ls es = ⊥

-- ---- the whole

-- a lane of the board that has read what was published and answered nothing
abbrev pub IsFresh : Book → List Install → LaneState → Type 0
IsFresh board published l = (room : ℕ) × (l ≡ fresh_lane board published room)

-- what a lane of the board leaves that has answered its share of the frames, each by an install of its view; it knows these
-- installs
pub record HasAnsweredShare (own : Book) (told : List Install) (share : List Arrival) (e : EndState) : Type 0 where
  pub board : e.board ≡ own
  pub view : IsPrefix told e.view
  pub rising : RisesByOne e.view
  pub entered : e.entered ≡ length share
  pub answers : length e.answers ≡ length share
  pub runs : LaneRuns e.view share e.answers e.memory

-- what each lane leaves, in their order
abbrev pub HaveAnswered : Book → List Install → List (List Arrival) → List EndState → Type 0
HaveAnswered board told [] [] = Unit {0}
HaveAnswered board told (share ∷ shares) (e ∷ es) = HasAnsweredShare board told share e × HaveAnswered board told shares es
HaveAnswered board told shares es = ⊥
