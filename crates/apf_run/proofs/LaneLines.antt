-- The lines of answers, one after another.
use Rattle.std.proofs.Common.{◌≡◌, ◌+◌, ◌<◌, ◌≤◌, ℕ, List, [], ◌∷◌, ◌++◌, length, drop, get_or, map, Result, Ok, Err, refl, sym, ap, ap₂, subst, ◌∙◌, arith, add-one, drop-cons}
use Rattle.std.specs.Result.{IsErrAnd}
use Rattle.std.proofs.lemmas.List.{drop_all}
use Rattle.policy_state.specs.declared.basis.Answer.{Answer}
use Rattle.policy_state.specs.declared.basis.Script.{Script}
use Rattle.filter_core.specs.declared.install.Install.{Install}
use Rattle.command_plan.specs.declared.fault.Fault.{Fault}
use Rattle.command_plan.specs.declared.fault.Fault.TheVariants as faults
use Rattle.command_plan.specs.Follows.{Sinking, Writes}
use Rattle.command_plan.specs.Plan.{says}
use Rattle.command_plan.proofs.Saying.{says_more, says_broken, says_none, says_lack}
use Rattle.filter_report.specs.Live.{lane_line, lane_lines, live_lines, passed_of}
use Rattle.filter_report.specs.Scripted.{HasTold, events_told}
use Rattle.filter_report.specs.Text.{last_lines}

module _ (lanes : ℕ) (answers : List Answer) (i : ℕ) (d : Answer) (line : List ℕ) (a b : Sinking) (r : Result (Unit {0}) Fault) where
  line_and_rest : i < length answers → line ≡ lane_line lanes (i + 1) (get_or answers i d) → line ∷ lane_lines lanes (i + 1 + 1) (drop (i + 1) answers) ≡ lane_lines lanes (i + 1) (drop i answers)
  line_and_rest below is =
      let split : drop i answers ≡ get_or answers i d ∷ drop (i + 1) answers = rw (add-one, drop-cons answers i d) refl in
      ap (λ (x : List ℕ). x ∷ lane_lines lanes (i + 1 + 1) (drop (i + 1) answers)) is ∙ sym (ap (lane_lines lanes (i + 1)) split)

  pub lane_said : (c : Sinking) → i < length answers → line ≡ lane_line lanes (i + 1) (get_or answers i d) → Writes (says (line ∷ [])) a c (Ok tt)
      → Writes (says (lane_lines lanes (i + 1 + 1) (drop (i + 1) answers))) c b r → Writes (says (lane_lines lanes (i + 1) (drop i answers))) a b r
  lane_said c below is first more =
      subst (λ (l : List (List ℕ)). Writes (says l) a b r) (line_and_rest below is) (says_more a b (line ∷ []) (lane_lines lanes (i + 1 + 1) (drop (i + 1) answers)) c r first more)

  pub lane_unsaid : (fault : Fault) → i < length answers → line ≡ lane_line lanes (i + 1) (get_or answers i d) → Writes (says (line ∷ [])) a b (Err fault) → r ≡ Err fault
      → Writes (says (lane_lines lanes (i + 1) (drop i answers))) a b r
  lane_unsaid fault below is first e =
      subst (λ (l : List (List ℕ)). Writes (says l) a b r) (line_and_rest below is) (says_broken a b (line ∷ []) (lane_lines lanes (i + 1 + 1) (drop (i + 1) answers)) r fault first e)

pub no_lanes : (lanes i : ℕ) (answers : List Answer) (a : Sinking) → length answers ≤ i → Writes (says (lane_lines lanes (i + 1) (drop i answers))) a a (Ok tt)
no_lanes lanes i answers a past = says_none _ a (ap (lane_lines lanes (i + 1)) (drop_all i answers past))

-- ---- all lines

map_same : (xs : List (List ℕ)) → map (λ (x : List ℕ). x) xs ≡ xs
map_same [] = refl
map_same (x ∷ xs) = ap (λ (ys : List (List ℕ)). x ∷ ys) (map_same xs)

-- the lines of a live run are those of the script, of the answers, and the last ones
pub live_parts : (script : Script) (installs : List Install) (told : List (List ℕ)) (lanes : ℕ) (answers : List Answer) (sum : List ℕ) (last : List (List ℕ)) → HasTold script installs told
    → last ≡ last_lines sum (length answers) (passed_of answers) (length installs)
    → map (λ (line : List ℕ). line) told ++ (lane_lines lanes 1 answers ++ map (λ (line : List ℕ). line) last) ≡ live_lines (events_told script) installs lanes answers sum
live_parts script installs told lanes answers sum last t is =
    ap₂ (λ (xs ys : List (List ℕ)). xs ++ (lane_lines lanes 1 answers ++ ys)) (map_same told ∙ t.telling) (map_same last ∙ is)

module _ (a b : Sinking) (script : Script) (installs : List Install) (told : List (List ℕ)) (lanes : ℕ) (answers : List Answer) (sum : List ℕ) (r : Result (Unit {0}) Fault) where
  abbrev Whole : Type 0
  Whole = HasTold script installs told → Writes (says (live_lines (events_told script) installs lanes answers sum)) a b r

  abbrev Last : List (List ℕ)
  Last = last_lines sum (length answers) (passed_of answers) (length installs)

  as_whole : (last : List (List ℕ)) → last ≡ Last → Writes (says (map (λ (line : List ℕ). line) told ++ (lane_lines lanes 1 answers ++ map (λ (line : List ℕ). line) last))) a b r → Whole
  as_whole last is h t = subst (λ (l : List (List ℕ)). Writes (says l) a b r) (live_parts script installs told lanes answers sum last t is) h

  pub told_unsaid : (fault : Fault) → Writes (says (map (λ (line : List ℕ). line) told)) a b (Err fault) → r ≡ Err fault → Whole
  told_unsaid fault first is = as_whole Last refl (says_broken a b (map (λ (line : List ℕ). line) told) (lane_lines lanes 1 answers ++ map (λ (line : List ℕ). line) Last) r fault first is)

  module _ (c : Sinking) (first : Writes (says (map (λ (line : List ℕ). line) told)) a c (Ok tt)) where
    pub answers_unsaid : (fault : Fault) → Writes (says (lane_lines lanes 1 answers)) c b (Err fault) → r ≡ Err fault → Whole
    answers_unsaid fault second is =
        as_whole Last refl
        (says_more a b (map (λ (line : List ℕ). line) told) (lane_lines lanes 1 answers ++ map (λ (line : List ℕ). line) Last) c r first
        (says_broken c b (lane_lines lanes 1 answers) (map (λ (line : List ℕ). line) Last) r fault second is))

    pub last_said : (d : Sinking) (last : List (List ℕ)) → last ≡ Last → Writes (says (lane_lines lanes 1 answers)) c d (Ok tt) → Writes (says (map (λ (line : List ℕ). line) last)) d b r → Whole
    last_said d last is second third =
        as_whole last is
        (says_more a b (map (λ (line : List ℕ). line) told) (lane_lines lanes 1 answers ++ map (λ (line : List ℕ). line) last) c r first
        (says_more c b (lane_lines lanes 1 answers) (map (λ (line : List ℕ). line) last) d r second third))

-- memory was wanting for the last lines
pub last_lacks : (a b c : Sinking) (script : Script) (installs : List Install) (told : List (List ℕ)) (lanes : ℕ) (answers : List Answer) (sum : List ℕ) (r : Result (Unit {0}) Fault) → IsErrAnd r (λ e. e ≡ faults.OutOfMemory)
    → Writes (says (map (λ (line : List ℕ). line) told)) a c (Ok tt) → Writes (says (lane_lines lanes 1 answers)) c b (Ok tt) → HasTold script installs told
    → Writes (says (live_lines (events_told script) installs lanes answers sum)) a b r
last_lacks a b c script installs told lanes answers sum r lack first second =
    last_said a b script installs told lanes answers sum r c first b _ refl second (says_lack _ b r lack)
