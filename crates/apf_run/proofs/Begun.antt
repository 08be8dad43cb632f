-- How `filter` begins: the first install.
use Rattle.std.proofs.Common.{◌≡◌, ◌≤◌, ◌<◌, ℕ, List, [], ◌∷◌, ◌++◌, Bool, true, false, cond, ltb, Option, None, Some, Result, Ok, Err, refl, sym, ap, subst, ◌∙◌, arith, inl, inr}
use Rattle.std.specs.List.{concat}
use Rattle.std.specs.Io.KnownBytes.{Keeps}
use Rattle.std.proofs.lemmas.Bool.{cases_lt, le-ltb, lt-ltb}
use Rattle.apf_base.specs.Causes.{Rose}
use Rattle.apf_base.specs.Streams.{AppendsPart, AppendsAll}
use Rattle.apf_generate.specs.Ranges.{IsScript}
use Rattle.policy_state.specs.States.{start}
use Rattle.policy_state.specs.declared.basis.Script.{Script}
use Rattle.size_fit.specs.Sizes.{base, limit_of}
use Rattle.filter_core.specs.Replay.{begun, course}
use Rattle.filter_report.specs.Along.{Reporting, InCourse}
use Rattle.filter_report.specs.Faults.{command_fault}
use Rattle.filter_report.specs.Lines.{Adds, BreaksOff}
use Rattle.filter_report.specs.Report.{Leads, Tells}
use Rattle.filter_report.specs.Text.{entry_lines}
use Rattle.filter_report.specs.declared.fault.ReportFault.{ReportFault}
use Rattle.filter_report.specs.declared.fault.ReportFault.TheVariants as reports
use Rattle.filter_report.proofs.Leading.{along_tells, leads_story}
use Rattle.filter_report.proofs.Completing.{HasBytes, story_codes}
use Rattle.std.proofs.lemmas.List.Elements.{All-nil}
use Rattle.command_plan.specs.declared.fault.Refusal.{Refusal}
use Rattle.command_plan.specs.declared.fault.Refusal.TheVariants.{BadCapture, TooLarge}
use Rattle.command_plan.specs.declared.fault.Fault.{Fault}
use Rattle.command_plan.specs.declared.fault.Fault.TheVariants as faults
use Rattle.command_plan.specs.Follows.{Shelving, Sinking, Stage, Later, Follows, Writes, stage}
use Rattle.command_plan.specs.Plan.{Plan, Done, picks, says, unless, ◌>>=◌}
use Rattle.command_plan.proofs.Following.{before, done, fails, lacks, then_on, then_pick}
use Rattle.command_plan.proofs.Saying.{all_said, part_of_more}
use Rattle.command_plan.proofs.Texts.{ended, part_said}
use Rattle.filter_report.specs.Streaming.{HasBegun, IsReplayed, record_shares, replays}
use Rattle.pcap_files.specs.Stream.{told_end}
use Rattle.pcap_files.specs.declared.fault.PcapError.{PcapError}
use Rattle.command_plan.specs.Files.{input}
use Rattle.command_plan.specs.declared.fault.FileKind.TheVariants.{Capture}
use Rattle.command_plan.specs.Weaving.{weaves_all}
use Rattle.command_plan.proofs.Weaving.{woven_none, woven_refused}
use Rattle.command_plan.proofs.Stages.{idle_refl}
use Rattle.apf_run.specs.Filter.{IsFirstLine, begins, script_refusal}

pub not_less : (n m : ℕ) → (n < m → ⊥) → m ≤ n
not_less n m never =
    elim (cases_lt n m) [
      | inl lt ↦ absurd (never lt)
      | inr le ↦ le
    ]

pub err_is : {A : Type 0} {x y : ReportFault} → (let failed : Result A ReportFault = Err x in failed ≡ Err y) → x ≡ y
err_is e = cc

-- ---- one line

-- the line of a first install that broke off can be completed to the one that is defined
first_lines : (script : Script) → IsScript script → base script.config start ≤ limit_of script.config → (lines : List (List ℕ)) → Leads (begun script).told [] lines
    → (rest : List (List ℕ)) × Tells (begun script).told [] (lines ++ rest)
unfolding course
first_lines script sound fits lines lead = leads_story script [] lines (story_codes script sound fits [] (All-nil HasBytes)) lead

-- what tells the first install is one line
pub one_line : (script : Script) (lines : List (List ℕ)) → Tells (begun script).told [] lines → (line : List ℕ) × (lines ≡ line ∷ [])
unfolding entry_lines
one_line script lines t = (_, t.telling)

-- ---- the room

pub fitting : (script : Script) → base script.config start ≤ limit_of script.config → script_refusal script ≡ None
fitting script fits = by_test (ltb (limit_of script.config) (base script.config start)) (le-ltb _ _ fits)
  where
    by_test : (t : Bool) → t ≡ false → cond t (Some (TooLarge (base script.config start) (limit_of script.config))) None ≡ None
    by_test true e = absurd cc
    by_test false e = refl

pub too_large : (script : Script) → limit_of script.config < base script.config start → script_refusal script ≡ Some (TooLarge (base script.config start) (limit_of script.config))
too_large script lt = by_test (ltb (limit_of script.config) (base script.config start)) (lt-ltb _ _ lt)
  where
    by_test : (t : Bool) → t ≡ true
        → cond t (Some (TooLarge (base script.config start) (limit_of script.config))) None ≡ Some (TooLarge (base script.config start) (limit_of script.config))
    by_test true e = refl
    by_test false e = absurd cc

module _ (script : Script) (a b : Stage) where
  abbrev Rest : List ℕ → Plan (List ℕ)
  Rest line = says (line ∷ []) >>= λ _. Done line

  has_room : base script.config start ≤ limit_of script.config → (r : Result (List ℕ) Fault) → Follows (picks (IsFirstLine script) >>= Rest) a b r → Follows (begins script) a b r
  has_room fits r h =
      then_on (unless (script_refusal script)) (λ _. picks (IsFirstLine script) >>= Rest) tt a a b r
      (subst (λ (o : Option Refusal). Follows (unless o) a a (Ok tt)) (sym (fitting script fits)) (ended None a)) h

  -- the line of the first install was written
  pub begun_written : base script.config start ≤ limit_of script.config → Later a b → b.shelf.left ≡ a.shelf.left → (line : List ℕ) → IsFirstLine script line
      → AppendsAll a.out.held b.out.held (line ∷ []) → Follows (begins script) a b (Ok line)
  begun_written fits later left line is all =
      has_room fits (Ok line)
      (then_pick (IsFirstLine script) Rest line a b (Ok line) is
      (then_on (says (line ∷ [])) (λ _. Done line) tt a b b (Ok line) (all_said (line ∷ []) a b later left all) (done line b (Ok line) refl)))

  begun_broken : base script.config start ≤ limit_of script.config → Later a b → b.shelf.left ≡ a.shelf.left → Rose a.out.faults b.out.faults → (line : List ℕ) → IsFirstLine script line
      → AppendsPart a.out.held b.out.held (concat (line ∷ [])) → Follows (begins script) a b (Err faults.Write)
  begun_broken fits later left rose line is part =
      has_room fits (Err faults.Write)
      (then_pick (IsFirstLine script) Rest line a b (Err faults.Write) is
      (fails (says (line ∷ [])) (λ _. Done line) faults.Write a b (Err faults.Write) refl (part_said a b later (line ∷ []) [] left rose part)))

  -- a write failed within it
  pub begun_unwritten : IsScript script → base script.config start ≤ limit_of script.config → Later a b → b.shelf.left ≡ a.shelf.left → Rose a.out.faults b.out.faults → (more : List (List ℕ))
      → Leads (begun script).told [] more → AppendsPart a.out.held b.out.held (concat more) → Follows (begins script) a b (Err faults.Write)
  begun_unwritten sound fits later left rose more lead part =
      let whole = first_lines script sound fits more lead in
      let one = one_line script (more ++ whole.0) whole.1 in
      begun_broken fits later left rose one.0 (subst (λ (l : List (List ℕ)). Tells (begun script).told [] l) one.1 whole.1)
      (subst (λ (l : List (List ℕ)). AppendsPart a.out.held b.out.held (concat l)) one.1 (part_of_more a.out.held b.out.held more whole.0 part))

  -- the program has no room
  pub begun_refused : limit_of script.config < base script.config start → Follows (begins script) a a (Err (faults.Refused (TooLarge (base script.config start) (limit_of script.config))))
  begun_refused lt =
      let refusal : Refusal = TooLarge (base script.config start) (limit_of script.config) in
      fails (unless (script_refusal script)) (λ _. picks (IsFirstLine script) >>= Rest) (faults.Refused refusal) a a (Err (faults.Refused refusal)) refl
      (subst (λ (o : Option Refusal). Follows (unless o) a a (Err (faults.Refused refusal))) (sym (too_large script lt)) (ended (Some refusal) a))

-- ---- the end of the first call

module _ (script : Script) (sound : IsScript script) (a b : Sinking) (later : a.faults ≤ b.faults) where
  behind : (shelf : Shelving) → Later (stage shelf a) (stage shelf b)
  behind shelf = record { files = refl; faults = omega arith; misses = omega arith; out_faults = later; board = omega arith }

  -- it failed
  pub begin_fails : (fault : ReportFault) → (fault ≡ reports.Write → BreaksOff reports.Write (λ lines. lines ≡ []) (Leads (begun script).told []) a.held b.held)
      → ((fault ≡ reports.Write → ⊥) → Keeps a.held b.held)
      → ((need limit : ℕ) → fault ≡ reports.TooLarge need limit → (limit < need) × (need ≡ base script.config start) × (limit ≡ limit_of script.config))
      → (limit_of script.config < base script.config start → fault ≡ reports.TooLarge (base script.config start) (limit_of script.config))
      → (fault ≡ reports.Write → Rose a.faults b.faults) → Writes (begins script) a b (Err (command_fault fault))
  begin_fails (reports.TooLarge need limit) front keeps large fits rose =
      let p = large need limit refl in
      let lt : limit_of script.config < base script.config start = omega (arith, p.0, p.1, p.2) in
      let same : TooLarge (base script.config start) (limit_of script.config) ≡ TooLarge need limit = sym (ap (λ n. TooLarge n limit) p.1 ∙ ap (λ n. TooLarge (base script.config start) n) p.2) in
      record {
        at = λ shelf.
            before (begins script) (stage shelf a) (stage shelf b) (stage shelf b) _ (record { idle = record { later = behind shelf; held = keeps (λ e. absurd cc) }; left = refl })
            (subst (λ (r : Refusal). Follows (begins script) (stage shelf b) (stage shelf b) (Err (faults.Refused r))) same (begun_refused script (stage shelf b) (stage shelf b) lt));
      }
  begin_fails reports.OutOfMemory front keeps large fits rose = record {
    at = λ shelf. lacks (begins script) (stage shelf a) (stage shelf b) _ refl (record { later = behind shelf; held = keeps (λ e. absurd cc) });
  }
  begin_fails reports.Write front keeps large fits rose =
      let le : base script.config start ≤ limit_of script.config = not_less (limit_of script.config) (base script.config start) (λ lt. let bad = fits lt in absurd cc) in
      let r = front refl [] refl in
      record { at = λ shelf. begun_unwritten script (stage shelf a) (stage shelf b) sound le (behind shelf) refl (rose refl) r.0 r.2 r.1 }

  -- the line of the first install was written, and the filter has begun
  pub begin_goes : (f : Reporting) → base script.config start ≤ limit_of script.config → Adds (λ lines. lines ≡ []) (InCourse (begun script) f []) a.held b.held
      → (line : List ℕ) × Writes (begins script) a b (Ok line) × HasBegun script f (line ∷ [])
  begin_goes f fits adds =
      let r = adds [] refl in
      let tells = along_tells (begun script) f.core [] r.0 r.2.along in
      let one = one_line script r.0 tells in (
        one.0,
        record {
          at = λ shelf.
              begun_written script (stage shelf a) (stage shelf b) fits (behind shelf) refl one.0 (subst (λ (l : List (List ℕ)). Tells (begun script).told [] l) one.1 tells)
              (subst (λ (l : List (List ℕ)). AppendsAll a.held b.held l) one.1 r.1);
        },
        record { sound = sound; fits = fits; course = subst (λ (l : List (List ℕ)). InCourse (begun script) f [] l) one.1 r.2 },
      )

-- ---- a capture that is refused by its header

-- the line of the first install is all that is said of it
pub refused_at_once : (script : Script) (f : Reporting) (line : List ℕ) → HasBegun script f (line ∷ []) → (fault : PcapError) (b : Stage) (r : Result (Unit {0}) Fault)
    → r ≡ Err (faults.Refused (BadCapture fault)) → Follows (replays (input Capture 2) script line (told_end (Some fault))) b b r
unfolding course record_shares
refused_at_once script f line h fault b r is =
    then_pick (λ more. IsReplayed script (told_end (Some fault)) (line ∷ more)) (weaves_all (input Capture 2) (Some fault) []) [] b b r
    (along_tells (begun script) f.core [] (line ∷ []) h.course.along) (woven_refused (input Capture 2) [] [] b b (woven_none (input Capture 2) b) fault b r is (idle_refl b))
