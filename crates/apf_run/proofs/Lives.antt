-- How `live` begins: what it checks before its lanes run.
use Rattle.std.proofs.Common.{◌≡◌, ◌<◌, ℕ, List, Option, None, Some, Result, Ok, Err, refl, sym, ap, ap₂, subst, ◌∙◌}
use Rattle.policy_state.specs.States.{start}
use Rattle.policy_state.specs.declared.basis.Script.{Script}
use Rattle.size_fit.specs.Sizes.{base, limit_of}
use Rattle.filter_report.specs.Faults.{command_fault}
use Rattle.filter_report.specs.declared.fault.ReportFault.{ReportFault}
use Rattle.filter_report.specs.declared.fault.ReportFault.TheVariants as reports
use Rattle.filter_report.specs.declared.scripted.ScriptTold.{ScriptTold}
use Rattle.pcap_files.specs.declared.fault.PcapError.{PcapError}
use Rattle.command_plan.specs.declared.fault.Refusal.{Refusal}
use Rattle.command_plan.specs.declared.fault.Refusal.TheVariants.{BadCapture, TooLarge}
use Rattle.command_plan.specs.declared.fault.Fault.{Fault}
use Rattle.command_plan.specs.declared.fault.Fault.TheVariants as faults
use Rattle.std.specs.Prelude.{IfSome}
use Rattle.script_text.specs.ScriptLines.{Contents}
use Rattle.script_text.specs.ScriptReading.{script_answer}
use Rattle.script_text.specs.Scripts.{IsScriptText}
use Rattle.script_text.specs.declared.script_error.ScriptError.{ScriptError}
use Rattle.script_text.specs.declared.script_error.ScriptError.TheVariants as scripts
use Rattle.command_plan.specs.declared.fault.Input.{Input}
use Rattle.command_plan.specs.Follows.{Follows, Reads, Shelving, Stage, Thinks, shelving, sinking, stage}
use Rattle.command_plan.specs.Follows as f
use Rattle.command_plan.specs.Plan.{◌>>=◌, asks, picks, unless}
use Rattle.command_plan.proofs.Endings.{later}
use Rattle.command_plan.proofs.Stages.{no_fault}
use Rattle.command_plan.proofs.Following.{lacks}
use Rattle.command_plan.proofs.Stages.{idle_refl}
use Rattle.command_plan.proofs.Texts.{end_of, ended}
use Rattle.apf_run.specs.Filter.{reads_script, says_something, script_refusal}
use Rattle.apf_run.specs.Live.{capture_refusal}
use Rattle.apf_run.proofs.Begun.{fitting, too_large, not_less}

-- nothing is refused, or this is
goes_on : (o : Option Refusal) → o ≡ None → Thinks (unless o) (Ok tt)
goes_on o is = record { at = λ s. subst (λ (p : Option Refusal). Follows (unless p) s s (Ok tt)) (sym is) (ended None s) }

ends_by : (o : Option Refusal) (refusal : Refusal) → o ≡ Some refusal → Thinks (unless o) (Err (faults.Refused refusal))
ends_by o refusal is = record { at = λ s. subst (λ (p : Option Refusal). Follows (unless p) s s (Err (faults.Refused refusal))) (sym is) (ended (Some refusal) s) }

-- ---- the first install

pub first_fits : (script : Script) (told : ScriptTold) (r : Result ScriptTold ReportFault) → r ≡ Ok told
    → (limit_of script.config < base script.config start → r ≡ Err (reports.TooLarge (base script.config start) (limit_of script.config))) → Thinks (unless (script_refusal script)) (Ok tt)
first_fits script told r is unfit = goes_on (script_refusal script) (fitting script (not_less _ _ (λ lt. let bad = sym is ∙ unfit lt in absurd cc)))

pub first_refused : (script : Script) (e : ReportFault)
    → ((need limit : ℕ) → e ≡ reports.TooLarge need limit → (limit < need) × (need ≡ base script.config start) × (limit ≡ limit_of script.config))
    → (e ≡ reports.Write → ⊥) → Thinks (unless (script_refusal script)) (Err (command_fault e))
first_refused script (reports.TooLarge need limit) how other =
    let h = how need limit refl in
    let lt : limit_of script.config < base script.config start = subst (λ (l : ℕ). l < base script.config start) h.2 (subst (λ (n : ℕ). limit < n) h.1 h.0) in
    let same : TooLarge (base script.config start) (limit_of script.config) ≡ TooLarge need limit = ap₂ (λ (n l : ℕ). TooLarge n l) (sym h.1) (sym h.2) in
    ends_by (script_refusal script) (TooLarge need limit) (too_large script lt ∙ ap (λ (x : Refusal). Some x) same)
first_refused script reports.OutOfMemory how other = record { at = λ s. lacks (unless (script_refusal script)) s s (Err faults.OutOfMemory) refl (idle_refl s) }
first_refused script reports.Write how other = absurd (other refl)

-- ---- the capture

pub capture_refused : (end : Option PcapError) (fault : PcapError) → end ≡ Some fault → Thinks (unless (capture_refusal end)) (Err (faults.Refused (BadCapture fault)))
capture_refused end fault is = ends_by (capture_refusal end) (BadCapture fault) (ap capture_refusal is)

pub capture_whole : (end : Option PcapError) → end ≡ None → Thinks (unless (capture_refusal end)) (Ok tt)
capture_whole end is = goes_on (capture_refusal end) (ap capture_refusal is)

-- ---- what was read

-- what is said of the bytes that were read is said of those that the file is told to have
pub known_file : (o : Option (List ℕ)) (x : List ℕ) (P : List ℕ → Type 0) → IfSome o (λ told. x ≡ told) → P x → IfSome o P
known_file None x P is h = tt
known_file (Some told) x P is h = subst P is h

-- a file that is read changes none
pub same_files : (input : Input) (path bytes : List ℕ) (a b : Shelving) → Reads (asks input path) a b (Ok bytes) → b.file ≡ a.file
same_files input path bytes a b h = (later (asks input path) (stage a (sinking None 0)) (stage b (sinking None 0)) (Ok bytes) (h.at (sinking None 0))).files

script_by : (text : List ℕ) (script : Script) (r : Result Contents ScriptError) (s : Stage) → Follows (says_something r >>= λ _. picks (IsScriptText text)) s s (Ok script) → IsScriptText text script
unfolding Follows ◌>>=◌
script_by text script (Ok contents) s (f.Picks.no_memory h) = no_fault faults.OutOfMemory s s script h
script_by text script (Ok contents) s (f.Picks.picked x is (f.Ends.no_memory h)) = no_fault faults.OutOfMemory s s script h
script_by text script (Ok contents) s (f.Picks.picked x is (f.Ends.ended e rests)) = let same : x ≡ script = cc in subst (IsScriptText text) same is
script_by text script (Err (scripts.Bad line kind)) s (f.Ends.no_memory h) = no_fault faults.OutOfMemory s s script h
script_by text script (Err (scripts.Bad line kind)) s (f.Ends.ended e rests) = absurd cc
script_by text script (Err scripts.OutOfMemory) s (f.Picks.no_memory h) = no_fault faults.OutOfMemory s s script h
script_by text script (Err scripts.OutOfMemory) s (f.Picks.picked x has more) = absurd x

-- the script that was read is the one that the text is the text of
pub script_read : (text : List ℕ) (script : Script) → Thinks (reads_script text) (Ok script) → IsScriptText text script
script_read text script h = script_by text script (script_answer text) nowhere (h.at nowhere)
  where
    nowhere : Stage
    nowhere = stage (shelving (λ name. None) None 0 0) (sinking None 0)
