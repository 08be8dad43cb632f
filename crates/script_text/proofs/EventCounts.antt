-- Each event has a line, and each line a byte.
use Rattle.std.proofs.Common.{◌≤◌, ℕ, not, List, length, map, refl, ap, arith}
use Rattle.std.specs.Prelude.{Result, Ok, Err, IfOk}
use Rattle.std.specs.List.{enumerate_from}
use Rattle.std.proofs.lemmas.List.{length-map, length-append}
use Rattle.std.proofs.lemmas.List.Filters.{length-filter_both}
use Rattle.std.proofs.lemmas.List.FromFn.{length-enumerate_from}
use Rattle.policy_state.specs.declared.basis.Script.{Script}
use Rattle.plain_text.specs.Lines.{lines_of}
use Rattle.script_text.specs.ScriptLines.{contents_of, event_line, first_lines, kept_lines, is_skipped}
use Rattle.plain_text.proofs.LineCounts.{lines_few}
use Rattle.script_text.specs.Scripts.{IsScriptText}

kept_few : (text : List ℕ) → length (kept_lines text) ≤ length text
kept_few text =
    let all = enumerate_from 1 (lines_of text) in
    omega (arith, length-filter_both (λ l. not (is_skipped l.1)) (λ l. not (not (is_skipped l.1))) (λ l. refl) all, length-enumerate_from 1 (lines_of text), lines_few text)

events_few : (text : List ℕ) (script : Script) → IsScriptText text script → length script.events ≤ length text
events_few text script is =
    let c = contents_of script in
    omega (arith, kept_few text, length-map (kept_lines text) (λ l. l.1), ap length is.lines, length-append (first_lines c) (map event_line c.events), length-map c.events event_line)

pub few_found : {E : Type 0} (text : List ℕ) (result : Result Script E) → IfOk result (λ script. IsScriptText text script) → IfOk result (λ script. length script.events ≤ length text)
few_found text (Ok script) is = events_few text script is
few_found text (Err e) is = tt
