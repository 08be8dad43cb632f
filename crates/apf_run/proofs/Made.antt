-- The made script and the made capture, as the filter takes them.
use Rattle.std.proofs.Common.{◌≡◌, ◌≤◌, ◌<◌, ◌++◌, ◌∷◌, ◌/◌, ℕ, List, [], length, map, fold, None, Result, Ok, Err, IfOk, refl, sym, ap, subst, ◌∙◌, arith, append-nil}
use Rattle.std.specs.List.{concat}
use Rattle.std.specs.Io.KnownBytes.{Keeps}
use Rattle.std.specs.List.{range_with_len}
use Rattle.std.proofs.lemmas.List.{length-map, map-append}
use Rattle.std.proofs.lemmas.List.FromFn.{length-map-range_with_len}
use Rattle.apf_base.specs.Causes.{Rose}
use Rattle.apf_base.specs.Streams.{AppendsPart, AppendsAll}
use Rattle.pcap_files.specs.Capture.{capture, frame_of}
use Rattle.pcap_files.specs.declared.kinds.Placed.{Placed}
use Rattle.policy_state.specs.States.{start}
use Rattle.policy_state.specs.declared.basis.Script.{Script}
use Rattle.size_fit.specs.Sizes.{base, limit_of}
use Rattle.script_text.proofs.Said.{says_again}
use Rattle.script_text.specs.ScriptLines.{Contents, contents_of}
use Rattle.script_text.specs.ScriptReading.{ReadsAs, script_answer}
use Rattle.script_text.specs.Scripts.{Says}
use Rattle.script_text.specs.declared.script_error.ScriptError.{ScriptError}
use Rattle.script_text.specs.declared.script_error.ScriptError.TheVariants.{Bad}
use Rattle.script_text.specs.declared.script_error.ScriptKind.{ScriptKind}
use Rattle.filter_core.specs.Replay.{Course, after_arrival, begun, course, finished, totals}
use Rattle.filter_report.specs.Along.{Reporting, InCourse}
use Rattle.filter_core.specs.Arrivals.{arrivals_of}
use Rattle.filter_report.specs.Lines.{Adds}
use Rattle.filter_report.specs.Text.{entry_lines}
use Rattle.filter_report.specs.declared.fault.ReportFault.{ReportFault}
use Rattle.filter_report.specs.declared.fault.ReportFault.TheVariants as reports
use Rattle.made_input.specs.MadeCaptures.{made_capture, made_stamp}
use Rattle.made_input.specs.MadeScripts.{doze_line, ended, made_contents, made_lines, made_script, opening}
use Rattle.made_input.proofs.Said.{said, script_short}
use Rattle.made_input.proofs.Whole.{whole}
use Rattle.filter_report.specs.Faults.{command_fault}
use Rattle.command_plan.specs.declared.fault.Fault.TheVariants as faults
use Rattle.command_plan.specs.Follows.{Stage, Later, Follows}
use Rattle.command_plan.specs.Plan.{says}
use Rattle.command_plan.proofs.Following.{lacks, then_pick}
use Rattle.command_plan.proofs.Saying.{all_said}
use Rattle.command_plan.proofs.Stages.{idle_refl}
use Rattle.command_plan.proofs.Texts.{part_said}
use Rattle.apf_run.specs.Make.{IsSummary, HasBegunMade, HasEndedMade, makes, summary_lines}
use Rattle.apf_run.specs.declared.setting.What.TheVariants.{Summary}
use Rattle.apf_base.specs.Limits.{script_limit}

-- ---- the script

module _ (n : ℕ) (le : n ≤ 100000) (text : List ℕ) (is : text ≡ made_script n) where
  pub text_short : length text ≤ script_limit
  text_short = subst (λ (t : List ℕ). length t ≤ script_limit) (sym is) (script_short n le)

  answered : script_answer text ≡ Ok (made_contents n)
  answered = ap script_answer is ∙ says_again (made_script n) (made_contents n) (said n le)

  -- a script that is answered says what is made
  pub read_as : (script : Script) → script_answer text ≡ Ok (contents_of script) → contents_of script ≡ made_contents n
  read_as script told = same (script_answer text) (contents_of script) (made_contents n) told answered
    where
      same : (r : Result Contents ScriptError) (a b : Contents) → r ≡ Ok a → r ≡ Ok b → a ≡ b
      same r a b e f = cc

  -- no line is refused
  pub none_bad : (line : ℕ) (kind : ScriptKind) (fault : ScriptError) (result : Result Script ScriptError) → result ≡ Err fault → fault ≡ Bad line kind → ReadsAs contents_of result (script_answer text) → ⊥
  none_bad line kind fault result e f told =
      apart (script_answer text) (subst (λ (r : Result Script ScriptError). ReadsAs contents_of r (script_answer text)) (e ∙ ap (λ (x : ScriptError). Err x) f) told) answered
    where
      apart : (a : Result Contents ScriptError) → a ≡ Err (Bad line kind) → a ≡ Ok (made_contents n) → ⊥
      apart a bad ok = cc

-- ---- the filter

module _ (n : ℕ) (script : Script) (is : contents_of script ≡ made_contents n) where
  few_denied : length script.config.deny ≡ 1
  unfolding made_contents
  few_denied = ap (λ (c : Contents). length c.deny) is

  capacity_is : script.config.capacity ≡ 2048
  unfolding made_contents
  capacity_is = ap (λ (c : Contents). c.capacity) is

  -- its program has room
  pub none_large : (need limit : ℕ) → limit < need → need ≡ base script.config start → limit ≡ limit_of script.config → ⊥
  none_large need limit lt a b =
      let denied = few_denied in
      let size = capacity_is in
      omega (arith, lt, a, b, denied, size)

  pub begun_made : (result : Result Reporting ReportFault) → n ≤ 100000 → IfOk result (λ f. Adds (λ lines. lines ≡ []) (InCourse (begun script) f []) None None) → IfOk result (HasBegunMade n)
  begun_made (Ok f) le adds = let r = adds [] refl in (script, subst (Says (made_script n)) (sym is) (said n le), r.0, r.2)
  begun_made (Err fault) le adds = tt

-- ---- the capture

-- each record has its number
pub made_few : (n : ℕ) → n ≤ 100000 → length (capture (made_capture n)).list ≡ n
made_few n le =
    sym (length-map (capture (made_capture n)).list (λ (placed : Placed). placed.stamp))
    ∙ ap length (whole n le).stamps
    ∙ length-map-range_with_len made_stamp 1 n

-- a filter that took these records of these bytes, and all events that were left
abbrev HasTaken : Script → Reporting → List ℕ → List Placed → Type 0
HasTaken script f bytes records = (frames lines : List (List ℕ)) × InCourse (finished (fold after_arrival (begun script) (arrivals_of bytes records))) f frames lines

-- all of the capture's records and all events of the script were taken
pub ended_made : (n : ℕ) (bytes : List ℕ) (records : List Placed) (f g h : Reporting) → bytes ≡ made_capture n → records ≡ (capture bytes).list → HasBegunMade n f
    → ((c : Course) (frames : List (List ℕ)) → Adds (InCourse c f frames) (InCourse (fold after_arrival c (arrivals_of bytes records)) g (frames ++ map (frame_of bytes) records)) None None)
    → ((c : Course) (frames : List (List ℕ)) → Adds (InCourse c g frames) (InCourse (finished c) h frames) None None)
    → HasEndedMade n h
unfolding course
ended_made n bytes records f g h is found b take rest =
    let taken = take (begun b.0) [] b.2 b.3 in
    let done = rest (fold after_arrival (begun b.0) (arrivals_of bytes records)) (map (frame_of bytes) records) (b.2 ++ taken.0) taken.2 in
    (b.0, b.1, subst (λ (t : List ℕ). HasTaken b.0 h t (capture t).list) is (subst (HasTaken b.0 h bytes) found (map (frame_of bytes) records, (b.2 ++ taken.0) ++ done.0, done.2)))

-- ---- the lines

module _ (n : ℕ) (f : Reporting) (a b : Stage) (later : Later a b) (is : HasEndedMade n f) where
  abbrev Lines : List (List ℕ)
  Lines = let bytes = made_capture n in summary_lines is.0 (arrivals_of bytes (capture bytes).list)

  are : IsSummary n Lines
  are = (is.0, is.1, refl)

  pub totals_done : b.shelf.left ≡ a.shelf.left
      → ((c : Course) (frames lines : List (List ℕ)) → InCourse c f frames lines → AppendsAll a.out.held b.out.held (entry_lines [] [] (totals c.told)))
      → Follows (makes Summary n) a b (Ok tt)
  totals_done left done = then_pick (IsSummary n) says Lines a b (Ok tt) are (all_said Lines a b later left (done _ is.2.0 is.2.1 is.2.2))

  pub totals_fail : b.shelf.left ≡ a.shelf.left → (result : Result (Unit {0}) ReportFault) (fault : ReportFault) → result ≡ Err fault
      → ((c : Course) (frames lines : List (List ℕ)) → InCourse c f frames lines → result ≡ Err reports.Write → AppendsPart a.out.held b.out.held (concat (entry_lines [] [] (totals c.told))))
      → ((result ≡ Err reports.Write → ⊥) → Keeps a.out.held b.out.held) → ((need limit : ℕ) → result ≡ Err (reports.TooLarge need limit) → ⊥)
      → (result ≡ Err reports.Write → Rose a.out.faults b.out.faults) → Follows (makes Summary n) a b (Err (command_fault fault))
  totals_fail left result (reports.TooLarge need limit) e front keeps none rose = absurd (none need limit e)
  totals_fail left result reports.OutOfMemory e front keeps none rose = lacks (makes Summary n) a b (Err faults.OutOfMemory) refl (record { later = later; held = keeps (λ w. absurd cc) })
  totals_fail left result reports.Write e front keeps none rose =
      then_pick (IsSummary n) says Lines a b (Err faults.Write) are
      (subst (λ (l : List (List ℕ)). Follows (says l) a b (Err faults.Write)) (append-nil Lines) (part_said a b later Lines [] left (rose e) (front _ is.2.0 is.2.1 is.2.2 e)))

-- memory was wanting before the totals
pub replay_fails : (n : ℕ) (s : Stage) (fault : ReportFault) → ((need limit : ℕ) → fault ≡ reports.TooLarge need limit → ⊥) → (fault ≡ reports.Write → ⊥) → Follows (makes Summary n) s s (Err (command_fault fault))
replay_fails n s (reports.TooLarge need limit) none written = absurd (none need limit refl)
replay_fails n s reports.OutOfMemory none written = lacks (makes Summary n) s s _ refl (idle_refl s)
replay_fails n s reports.Write none written = absurd (written refl)

-- ---- the pieces of the made script

map_map : (f : ℕ → List ℕ) (js : List ℕ) → map ended (map f js) ≡ map (λ j. ended (f j)) js
map_map f [] = refl
map_map f (j ∷ js) = ap (λ (l : List (List ℕ)). ended (f j) ∷ l) (map_map f js)

pub script_lines : (n : ℕ) → map ended opening ++ map (λ j. ended (doze_line j)) (range_with_len 1 (n / 10)) ≡ map ended (made_lines n)
script_lines n =
    sym (map-append ended opening (map doze_line (range_with_len 1 (n / 10))) ∙ ap (λ (l : List (List ℕ)). map ended opening ++ l) (map_map doze_line (range_with_len 1 (n / 10))))
