-- Where `filter` ends well, the report of its script over its capture was written.
use Rattle.std.proofs.Common.{◌≡◌, inl, inr, ℕ, List, [], ◌∷◌, codes, Option, None, Some, IfSome, Result, Ok, Err, refl, sym, ap, subst, ◌∙◌}
use Rattle.apf_base.specs.Streams.{AppendsAll}
use Rattle.filter_core.specs.Replay.{Arrival}
use Rattle.filter_core.specs.Arrivals.{arrivals_of}
use Rattle.filter_report.specs.Report.{IsReport}
use Rattle.pcap_files.specs.Capture.{capture}
use Rattle.pcap_files.specs.declared.fault.PcapError.{PcapError}
use Rattle.policy_state.specs.declared.basis.Script.{Script}
use Rattle.script_text.specs.Scripts.{IsScriptText}
use Rattle.command_plan.specs.Ending.{Leaves}
use Rattle.command_plan.specs.Meaning.{MayEndBy}
use Rattle.command_plan.specs.Status.{status_of}
use Rattle.command_plan.specs.declared.fault.Fault.{Fault}
use Rattle.command_plan.proofs.Endings.{ended_well}
use Rattle.apf_run.specs.Commands.{words_meaning}
use Rattle.command_plan.specs.Weaving.{refusal_by}
use Rattle.command_plan.proofs.Texts.{end_of}
use Rattle.filter_report.specs.Streaming.{TellsAll, arrival_told, arrivals_told}
use Rattle.pcap_files.specs.Stream.{Told, told}
use Rattle.pcap_files.proofs.Telling.{told-map}
use Rattle.apf_run.specs.Filtered.{IsFiltered}
use Rattle.apf_run.proofs.FilterWalk.{Came, came_by}
use Rattle.apf_run.proofs.FilterWalk as walk

-- an answer is no fault
no_answer : {P : Type 0} (fault : Fault) → ◌≡◌ {A = Result (Unit {0}) Fault} (Ok tt) (Err fault) → P
no_answer fault e = absurd (cc)

known : (o : Option (List ℕ)) (x : List ℕ) (P : List ℕ → Type 0) → IfSome o (λ all. x ≡ all) → P x → IfSome o P
known None x P is h = tt
known (Some all) x P is h = subst P is h

-- the records that a file tells are the frames of its capture
arrivals_are : (bytes : List ℕ) → arrivals_told (told bytes).list ≡ arrivals_of bytes (capture bytes).list
arrivals_are bytes = told-map arrival_told bytes

-- a capture that ended well has no fault
none_refused : (end : Option PcapError) (script : Script) (arrivals : List Arrival) (lines : List (List ℕ)) → ◌≡◌ {A = Result (Unit {0}) Fault} (Ok tt) (end_of (refusal_by end))
    → TellsAll end script arrivals lines → IsReport script arrivals lines
none_refused None script arrivals lines e is = is
none_refused (Some fault) script arrivals lines e is = no_answer _ e

-- the report of the script and of the bytes
abbrev Reports : List ℕ → List ℕ → List (List ℕ) → Type 0
Reports text bytes lines = (script : Script) × IsScriptText text script × IsReport script (arrivals_of bytes (capture bytes).list) lines

module _ (text : List ℕ) (script : Script) (is : IsScriptText text script) (lines : List (List ℕ)) where
  of_told : (o : Option (List ℕ)) (found : Told) → IfSome o (λ all. found ≡ told all) → IsReport script (arrivals_told found.list) lines → IfSome o (λ bytes. Reports text bytes lines)
  of_told None found same report = tt
  of_told (Some bytes) found same report = (script, is, subst (λ (arrivals : List Arrival). IsReport script arrivals lines) (ap (λ (t : Told). arrivals_told t.list) same ∙ arrivals_are bytes) report)

module _ (file : List ℕ → Option (List ℕ)) where
  reported : (s c : List ℕ) (lines : List (List ℕ)) → Came file s c (Ok tt) lines → IfSome (file s) (λ text. IfSome (file c) (λ bytes. Reports text bytes lines))
  reported s c lines (walk.Came.before nil not) = absurd (not refl)
  reported s c lines (walk.Came.within (inl e)) = no_answer _ e
  reported s c lines (walk.Came.within (inr e)) = no_answer _ e
  reported s c lines (walk.Came.begun b are fault e fails) = no_answer _ e
  reported s c lines (walk.Came.unread e) = no_answer _ e
  reported s c lines (walk.Came.replayed b more are found tells is e) =
      let report : IsReport b.script (arrivals_told found.list) (b.line ∷ more) = none_refused found.end b.script (arrivals_told found.list) (b.line ∷ more) e is in
      known (file s) b.text (λ text. IfSome (file c) (λ bytes. Reports text bytes lines)) b.held.same
      (of_told b.text b.script b.is lines (file c) found tells.same (subst (λ (l : List (List ℕ)). IsReport b.script (arrivals_told found.list) l) (sym are) report))

written : (o p old new : Option (List ℕ)) (lines : List (List ℕ)) → AppendsAll old new lines → IfSome o (λ text. IfSome p (λ bytes. Reports text bytes lines))
    → IfSome o (λ text. IfSome p (λ bytes. IsFiltered text bytes old new))
written None p old new lines all h = tt
written (Some text) None old new lines all h = tt
written (Some text) (Some bytes) old new lines all h = (h.0, h.1, lines, h.2, all)

-- with status 0
pub filtered : (file : List ℕ → Option (List ℕ)) (old new : Option (List ℕ)) (s c : List ℕ) (words : List (List ℕ)) (lines : List (List ℕ)) (end : Result (Unit {0}) Fault) → words ≡ codes "filter" ∷ s ∷ c ∷ []
    → status_of end ≡ 0 → MayEndBy (words_meaning words) file lines end → Leaves old new lines end → IfSome (file s) (λ text. IfSome (file c) (λ bytes. IsFiltered text bytes old new))
filtered file old new s c words lines end is ok may left =
    let well : end ≡ Ok tt = ended_well end ok in
    let now : MayEndBy (words_meaning words) file lines (Ok tt) = subst (λ (e : Result (Unit {0}) Fault). MayEndBy (words_meaning words) file lines e) well may in
    written (file s) (file c) old new lines (subst (λ (e : Result (Unit {0}) Fault). Leaves old new lines e) well left)
    (reported file s c lines (came_by file s c (Ok tt) words lines is now))
