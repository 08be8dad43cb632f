-- How the call of `live` goes over its lanes and its lines.
use Rattle.std.proofs.Common.{◌≡◌, ◌+◌, ◌-◌, ◌≤◌, ◌<◌, ◌⊎◌, inl, inr, ℕ, suc, List, [], ◌∷◌, ◌++◌, length, map, get_or, replicate, IsTrue, Option, None, Result, Ok, Err, refl, sym, ap, ap₂, subst, ◌∙◌, arith}
use Rattle.std.proofs.lemmas.List.{length-map, length-replicate, get_or-replicate}
use Rattle.logbook.specs.Pages.{Book}
use Rattle.std.specs.Io.KnownBytes.{Appends, Keeps}
use Rattle.std.specs.List.{concat}
use Rattle.std.proofs.KnownBytes.{Appends-kept}
use Rattle.apf_base.specs.Causes.{Rose}
use Rattle.apf_base.specs.Streams.{AppendsAll}
use Rattle.command_plan.specs.declared.fault.Fault.{Fault}
use Rattle.command_plan.specs.declared.fault.Fault.TheVariants as faults
use Rattle.std.specs.Prelude.{OnOk}
use Rattle.command_plan.specs.Follows.{Shelving, Sinking, Stage, Later, Idle, Rests, Follows, Writes, shelving, sinking, stage, stage_beside}
use Rattle.command_plan.specs.Follows as f
use Rattle.command_plan.specs.Plan.{Plan, picks, says, ◌>>=◌}
use Rattle.command_plan.proofs.Beside.{writes_beside}
use Rattle.command_plan.proofs.Following.{lacks, then_pick}
use Rattle.command_plan.proofs.Stages.{idle_refl}
use Rattle.dealt_items.specs.Dealing.{dealt, every, woven}
use Rattle.dealt_items.proofs.Dealing.{length-dealt}
use Rattle.dealt_items.proofs.Sharing.{length-every}
use Rattle.dealt_items.specs.Sums.{IsSumOf}
use Rattle.filter_core.specs.Arrivals.{arrival_of, arrivals_of}
use Rattle.filter_core.specs.Lanes.{LanesRun, RisesFrom}
use Rattle.filter_core.specs.Replay.{Arrival}
use Rattle.filter_core.specs.declared.install.Install.{Install}
use Rattle.filter_report.specs.Live.{IsLive, live_lines}
use Rattle.filter_report.specs.Scripted.{HasTold, events_told}
use Rattle.pcap_files.specs.Capture.{capture}
use Rattle.pcap_files.specs.declared.kinds.Placed.{Placed}
use Rattle.policy_state.specs.declared.basis.Answer.{Answer}
use Rattle.policy_state.specs.declared.basis.Script.{Script}
use Rattle.program_swap.specs.Driving.{HaveAnswered, IsFresh}
use Rattle.program_swap.specs.Histories.{InstallerState, RisesByOne}
use Rattle.program_swap.specs.Lanes.{fresh_lane}
use Rattle.program_swap.specs.Order.{EndState, LaneState}
use Rattle.program_swap.specs.Again.{AllKeepNamed}
use Rattle.script_text.specs.Scripts.{IsScriptText}
use Rattle.apf_run.specs.Live.{HasLived, IsBoard, IsOfBoard, lives}

module _ (shelf : Shelving) (out : Sinking) (old new : ℕ) (rises : old ≤ new) where
  -- nothing is read or written while lanes run
  lanes_rest : Rests (stage_beside shelf out old) (stage_beside shelf out new)
  lanes_rest = record {
    idle = record {
      later = record { files = refl; faults = omega arith; misses = omega arith; out_faults = omega arith; board = rises };
      held = (idle_refl (stage_beside shelf out old)).held;
    };
    left = refl;
  }

  module _ (script : Script) (bytes : List ℕ) (lanes : ℕ) where
    -- lanes were refused, or memory was wanting
    pub lanes_fail : (fault : Fault) (r : Result (Unit {0}) Fault) → r ≡ Err fault → IsOfBoard old new fault
        → Follows (lives script bytes lanes) (stage_beside shelf out old) (stage_beside shelf out new) r
    unfolding Follows ◌>>=◌
    lanes_fail fault r is (inl e) = f.RunsLanes.no_memory (record { is = is ∙ ap (λ (x : Fault). Err x) e; idle = lanes_rest.idle })
    lanes_fail fault r is (inr (e, rose)) = f.RunsLanes.refused (record { is = is ∙ ap (λ (x : Fault). Err x) e; idle = lanes_rest.idle }) rose

    -- memory was wanting behind them
    pub lanes_lack : (r : Result (Unit {0}) Fault) → r ≡ Err faults.OutOfMemory → Follows (lives script bytes lanes) (stage_beside shelf out old) (stage_beside shelf out new) r
    unfolding Follows ◌>>=◌
    lanes_lack r is =
        f.RunsLanes.ran (stage_beside shelf out new) lanes_rest
        (lacks (picks (IsLive script (arrivals_of bytes (capture bytes).list) lanes) >>= λ lines. says lines) (stage_beside shelf out new) (stage_beside shelf out new) r is (idle_refl (stage_beside shelf out new)))

    -- they ran, and these lines were to be written
    pub lanes_say : (lines : List (List ℕ)) (after : Sinking) (r : Result (Unit {0}) Fault) → IsLive script (arrivals_of bytes (capture bytes).list) lanes lines → Writes (says lines) out after r
        → Follows (lives script bytes lanes) (stage_beside shelf out old) (stage_beside shelf after new) r
    unfolding Follows ◌>>=◌
    lanes_say lines after r live writes =
        f.RunsLanes.ran (stage_beside shelf out new) lanes_rest
        (then_pick (IsLive script (arrivals_of bytes (capture bytes).list) lanes) (λ lines. says lines) lines (stage_beside shelf out new) (stage_beside shelf after new) r live
        (writes_beside (says lines) out after shelf new r writes))

-- lines that were written stand
pub stands_all : (lines : List (List ℕ)) (a b : Stage) → Follows (says lines) a b (Ok tt) → AppendsAll a.out.held b.out.held lines
unfolding Follows
stands_all lines a b (f.Says.no_memory is later first) = absurd cc
stands_all lines a b (f.Says.unwritten is later left rose part) = absurd cc
stands_all lines a b (f.Says.said c later left all (f.Ends.no_memory h)) = let e : ◌≡◌ {A = Result (Unit {0}) Fault} (Ok tt) (Err faults.OutOfMemory) = h.is in absurd cc
stands_all lines a b (f.Says.said c later left all (f.Ends.ended is s)) = Appends-kept a.out.held c.out.held b.out.held (concat lines) all s.idle.held

-- what the lanes gave is a live run
abbrev pub ran_live : (script : Script) (bytes : List ℕ) (frames : List Placed) (installs : List Install) (told : List (List ℕ)) (lanes : ℕ) (answers : List (List Answer)) (memories : List (List ℕ)) (all : List Answer) (sum : List ℕ)
    → HasTold script installs told → frames ≡ (capture bytes).list → LanesRun installs (dealt lanes (arrivals_of bytes frames)) answers memories → all ≡ woven (length frames) answers → IsSumOf memories sum
    → IsLive script (arrivals_of bytes (capture bytes).list) lanes (live_lines (events_told script) installs lanes all sum)
ran_live script bytes frames installs told lanes answers memories all sum t are run wove summed = record {
  installs = installs;
  are = t.are;
  fit = t.fit;
  answers = answers;
  memories = memories;
  run = subst (λ (list : List Placed). LanesRun installs (dealt lanes (arrivals_of bytes list)) answers memories) are run;
  sum = sum;
  summed = summed;
  telling =
      let count : length frames ≡ length (arrivals_of bytes (capture bytes).list) = ap length are ∙ sym (length-map (capture bytes).list (arrival_of bytes)) in
      ap (λ (xs : List Answer). live_lines (events_told script) installs lanes xs sum) (wove ∙ ap (λ (n : ℕ). woven n answers) count);
}

-- ---- a new board

-- each of its lanes is fresh, and has room
pub lane_at : (n k : ℕ) (x d : LaneState) (all : List LaneState) → all ≡ replicate n x → k < length all → get_or all k d ≡ x
lane_at n k x d all are lt =
    let long : length all ≡ n = ap length are ∙ length-replicate n x in
    ap (λ (l : List LaneState). get_or l k d) are ∙ get_or-replicate n k x d (omega (arith, lt, long))

module _ (first : Install) (lanes frames : ℕ) (installer : InstallerState) (all : List LaneState) (b : IsBoard first lanes frames installer all) where
  pub board_live : IsTrue installer.live
  board_live = ap (λ (s : InstallerState). s.live) b.shows

  board_shows : installer.published ≡ first ∷ []
  board_shows = ap (λ (s : InstallerState). s.published) b.shows

  pub board_rises : (installs nexts : List Install) → RisesFrom 0 installs → installs ≡ first ∷ nexts → RisesByOne (installer.published ++ nexts)
  board_rises installs nexts rises are = (0, subst (λ (is : List Install). RisesFrom 0 (is ++ nexts)) (sym board_shows) (subst (RisesFrom 0) are rises))

  pub board_count : length all ≡ lanes
  board_count = ap length b.are ∙ length-replicate lanes (fresh_lane installer.board (first ∷ []) b.room)

  pub board_fresh : (k : ℕ) (d : LaneState) → k < length all → IsFresh installer.board installer.published (get_or all k d)
  board_fresh k d lt =
      let at = lane_at lanes k (fresh_lane installer.board (first ∷ []) b.room) d all b.are lt in
      (b.room, at ∙ ap (λ (is : List Install). fresh_lane installer.board is b.room) (sym board_shows))

  pub board_room : (list : List Placed) → length list ≡ frames → (k : ℕ) (d : LaneState) → k < length all → length (every 0 (length all - 1) list) ≤ (get_or all k d).spare
  board_room list count k d lt =
      let at = lane_at lanes k (fresh_lane installer.board (first ∷ []) b.room) d all b.are lt in
      let spare : (get_or all k d).spare ≡ b.room = ap (λ (l : LaneState). l.spare) at in
      let zeros : List ℕ = replicate frames 0 in
      let zeros_count : length zeros ≡ frames = length-replicate frames 0 in
      let same : length (every 0 (length all - 1) list) ≡ length (every 0 (lanes - 1) zeros) =
      ap (λ (n : ℕ). length (every 0 (n - 1) list)) board_count ∙ length-every 0 (lanes - 1) list zeros (count ∙ sym zeros_count) in
      omega (arith, b.fits zeros zeros_count, spare, same)

  -- what the lanes of this board left
  pub board_answered : (installs nexts : List Install) (xs : List Arrival) (ends : List EndState) → installs ≡ first ∷ nexts
      → HaveAnswered installer.board (installer.published ++ nexts) (dealt (length all) xs) ends → HaveAnswered installer.board installs (dealt lanes xs) ends
  board_answered installs nexts xs ends are h =
      let one = subst (λ (n : ℕ). HaveAnswered installer.board (installer.published ++ nexts) (dealt n xs) ends) board_count h in
      let two = subst (λ (is : List Install). HaveAnswered installer.board (is ++ nexts) (dealt lanes xs) ends) board_shows one in
      subst (λ (is : List Install). HaveAnswered installer.board is (dealt lanes xs) ends) (sym are) two

-- there is an end for each share
ends_count : (board : Book) (told : List Install) (shares : List (List Arrival)) (ends : List EndState) → HaveAnswered board told shares ends → length ends ≡ length shares
ends_count board told [] [] h = refl
ends_count board told [] (e ∷ ends) h = absurd h
ends_count board told (s ∷ shares) [] h = absurd h
ends_count board told (s ∷ shares) (e ∷ ends) h = ap suc (ends_count board told shares ends h.1)

pub lanes_count : (board : Book) (told : List Install) (lanes : ℕ) (xs : List Arrival) (ends : List EndState) → HaveAnswered board told (dealt lanes xs) ends → length ends ≡ lanes
lanes_count board told lanes xs ends h = ends_count board told (dealt lanes xs) ends h ∙ length-dealt lanes xs

-- as many shares ran as were dealt
ran_count : (installs : List Install) (shares : List (List Arrival)) (answers : List (List Answer)) (memories : List (List ℕ)) → LanesRun installs shares answers memories → length answers ≡ length shares
ran_count installs [] [] [] h = refl
ran_count installs [] [] (m ∷ memories) h = absurd h
ran_count installs [] (a ∷ answers) memories h = absurd h
ran_count installs (s ∷ shares) [] memories h = absurd h
ran_count installs (s ∷ shares) (a ∷ answers) [] h = absurd h
ran_count installs (s ∷ shares) (a ∷ answers) (m ∷ memories) h = ap suc (ran_count installs shares answers memories h.1)

-- ---- what the lanes gave

module _ (board : Book) (installs slice : List Install) (lanes : ℕ) (xs : List Arrival) (ends all : List EndState) (slice_is : slice ≡ installs) (all_is : all ≡ ends) (left : HaveAnswered board slice (dealt lanes xs) ends) where
  counted : length all ≡ lanes
  counted = ap length all_is ∙ lanes_count board slice lanes xs ends left

  pub ends_answered : HaveAnswered board slice (dealt (length all) xs) all
  ends_answered =
      subst (λ (n : ℕ). HaveAnswered board slice (dealt n xs) all) (sym counted)
      (subst (λ (es : List EndState). HaveAnswered board slice (dealt lanes xs) es) (sym all_is) left)

  pub shares_some : (answers : List (List Answer)) (memories : List (List ℕ)) → 0 < lanes → LanesRun slice (dealt (length all) xs) answers memories → 0 < length answers
  shares_some answers memories some run = omega (arith, ran_count slice (dealt (length all) xs) answers memories run, length-dealt (length all) xs, counted, some)

  pub installs_ran : (answers : List (List Answer)) (memories : List (List ℕ)) → LanesRun slice (dealt (length all) xs) answers memories → LanesRun installs (dealt lanes xs) answers memories
  installs_ran answers memories run =
      subst (λ (is : List Install). LanesRun is (dealt lanes xs) answers memories) slice_is
      (subst (λ (n : ℕ). LanesRun slice (dealt n xs) answers memories) counted run)

  pub installs_left : HaveAnswered board installs (dealt lanes xs) ends
  installs_left = subst (λ (is : List Install). HaveAnswered board is (dealt lanes xs) ends) slice_is left

-- ---- what stands then

stands_by : (lines : List (List ℕ)) (a b : Sinking) (r : Result (Unit {0}) Fault) → Writes (says lines) a b r → OnOk r (AppendsAll a.held b.held lines)
stands_by lines a b (Ok tt) h = stands_all lines (stage nowhere a) (stage nowhere b) (h.at nowhere)
  where
    nowhere : Shelving
    nowhere = shelving (λ name. None) None 0 0
stands_by lines a b (Err fault) h = tt

pub stands_seen : (lines : List (List ℕ)) (a b : Sinking) (r : Result (Unit {0}) Fault) (old new : Option (List ℕ)) (m n : ℕ) → a ≡ sinking old m → b ≡ sinking new n → Writes (says lines) a b r → OnOk r (AppendsAll old new lines)
stands_seen lines a b r old new m n is are h =
    stands_by lines (sinking old m) (sinking new n) r
    (subst (λ (s : Sinking). Writes (says lines) s (sinking new n) r) is (subst (λ (s : Sinking). Writes (says lines) a s r) are h))

-- a run that wrote its lines has lived
pub has_lived : (script : Script) (text bytes : List ℕ) (frames : List Placed) (installs slice : List Install) (told : List (List ℕ)) (lanes : ℕ) (ends slice_ends : List EndState) (board : Book) (answers : List (List Answer)) (memories : List (List ℕ))
    (all : List Answer) (sum : List ℕ) (old new : Option (List ℕ)) → IsScriptText text script → (t : HasTold script installs told) → (are : frames ≡ (capture bytes).list)
    → (run : LanesRun installs (dealt lanes (arrivals_of bytes frames)) answers memories) → (wove : all ≡ woven (length frames) answers) → (summed : IsSumOf memories sum) → AppendsAll old new (live_lines (events_told script) installs lanes all sum)
    → HaveAnswered board installs (dealt lanes (arrivals_of bytes frames)) ends → slice ≡ installs → slice_ends ≡ ends → AllKeepNamed (length slice) slice_ends answers → HasLived text bytes lanes ends old new
has_lived script text bytes frames installs slice told lanes ends slice_ends board answers memories all sum old new is t are run wove summed appends left slice_is ends_are kept = record {
  script = script;
  is = is;
  lines = live_lines (events_told script) installs lanes all sum;
  live = ran_live script bytes frames installs told lanes answers memories all sum t are run wove summed;
  appends = appends;
  board = board;
  answered = subst (λ (list : List Placed). HaveAnswered board installs (dealt lanes (arrivals_of bytes list)) ends) are left;
  kept = subst (λ (is' : List Install). AllKeepNamed (length is') ends answers) slice_is (subst (λ (es : List EndState). AllKeepNamed (length slice) es answers) ends_are kept);
}
