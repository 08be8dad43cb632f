-- Frames that lanes answer, each lane over a memory of its own.
use Rattle.std.specs.Prelude.{◌≡◌, ℕ, ◌+◌, ◌≤◌, max, List, [], ◌∷◌, ◌++◌, map, replicate}
use Rattle.apf_base.specs.Limits.{memory_size}
use Rattle.policy_state.specs.declared.basis.Answer.{Answer}
use Rattle.filter_core.specs.declared.install.Install.{Install}
use Rattle.filter_core.specs.Coded.{IsAnswer}
use Rattle.filter_core.specs.Replay.{Arrival}

-- one of these installs
abbrev pub IsOneOf : Install → List Install → Type 0
IsOneOf i installs = (before later : List Install) × (installs ≡ before ++ i ∷ later)

-- the numbers of these installs rise by one, from this on
abbrev pub RisesFrom : ℕ → List Install → Type 0
RisesFrom n [] = Unit {0}
RisesFrom n (i ∷ later) = (i.number ≡ n) × RisesFrom (n + 1) later

-- the codes of installs, in their order
abbrev pub codes_of : List Install → List (List ℕ)
codes_of installs = map (λ i. i.code) installs

-- each frame at the greatest second so far
abbrev pub clocked : ℕ → List Arrival → List Arrival
clocked clock [] = []
clocked clock (x ∷ later) = record x { second = max clock x.second } ∷ clocked (max clock x.second) later

-- These frames were answered in order, each by one of these installs, over the memory that the frames before it left. The
-- numbers of the installs begin with one that is at least this, and never fall.
abbrev pub LaneAnswers : List Install → (least : ℕ) → (memory : List ℕ) → List Arrival → List Answer → (left : List ℕ) → Type 0
LaneAnswers installs least memory [] [] left = left ≡ memory
LaneAnswers installs least memory (x ∷ later) (a ∷ answers) left =
    (i : Install) × IsOneOf i installs × (least ≤ i.number)
    × (after : List ℕ) × IsAnswer i x.frame x.second memory a after × LaneAnswers installs i.number after later answers left
LaneAnswers installs least memory arrivals answers left = ⊥

-- a lane at its start: it has answered nothing, over a memory of zeros, and its clock stands at 0
abbrev pub LaneRuns : List Install → List Arrival → List Answer → List ℕ → Type 0
LaneRuns installs share answers memory = LaneAnswers installs 0 (replicate memory_size 0) (clocked 0 share) answers memory

-- each lane has run its share of the frames
abbrev pub LanesRun : List Install → List (List Arrival) → List (List Answer) → List (List ℕ) → Type 0
LanesRun installs [] [] [] = Unit {0}
LanesRun installs (share ∷ shares) (answers ∷ more) (memory ∷ memories) = LaneRuns installs share answers memory × LanesRun installs shares more memories
LanesRun installs shares answers memories = ⊥
