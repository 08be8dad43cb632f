-- `make`: input that is made by a rule, and what the filter does with it.
use Rattle.std.specs.Prelude.{◌≡◌, ℕ, List, [], ◌∷◌, map}
use Rattle.std.specs.List.{range_with_len}
use Rattle.policy_state.specs.declared.basis.Script.{Script}
use Rattle.pcap_files.specs.Capture.{capture}
use Rattle.pcap_files.specs.Writing.{head_bytes}
use Rattle.script_text.specs.Scripts.{IsScriptText}
use Rattle.filter_core.specs.Replay.{Arrival, begun, course, finished, totals}
use Rattle.filter_report.specs.Along.{Reporting, InCourse}
use Rattle.filter_core.specs.Arrivals.{arrivals_of}
use Rattle.filter_report.specs.Text.{entry_lines}
use Rattle.made_input.specs.MadeCaptures.{made_capture, made_kind, made_record}
use Rattle.made_input.specs.MadeScripts.{ended, made_lines, made_script}
use Rattle.command_plan.specs.Meaning.{CommandMeaning, command, spelled}
use Rattle.command_plan.specs.Plan.{Plan, ◌>>=◌, picks, says}
use Rattle.apf_run.specs.Settings.{Making, making_for}
use Rattle.apf_run.specs.declared.setting.What.{What}
use Rattle.apf_run.specs.declared.setting.What.TheVariants as made

-- The last lines of a report: the counters that aren't 0, and the totals. They print no code and no steps.
abbrev pub summary_lines : Script → List Arrival → List (List ℕ)
summary_lines script arrivals = entry_lines [] [] (totals (finished (course script arrivals)).told)

-- the last lines of the report that `filter` writes of the made script and the made capture
abbrev pub IsSummary : ℕ → List (List ℕ) → Type 0
IsSummary n lines =
    (script : Script) × IsScriptText (made_script n) script
    × (let bytes = made_capture n in lines ≡ summary_lines script (arrivals_of bytes (capture bytes).list))

-- the lines of the made script; the file header and the records of the made capture; or the lines of the summary
abbrev pub makes : What → ℕ → Plan (Unit {0})
makes made.Script n = says (map ended (made_lines n))
makes made.Capture n = says (head_bytes made_kind ∷ map made_record (range_with_len 1 n))
makes made.Summary n = do
  lines ← picks (IsSummary n)
  says lines

abbrev pub make_plan : Making → Plan (Unit {0})
make_plan making = makes making.what making.n

-- `make WHAT N`
abbrev pub make_meaning : List ℕ → List ℕ → CommandMeaning
make_meaning what n = spelled (making_for what n) (λ making. command (make_plan making))

-- ---- parts of the command

-- a filter that has made the first install of the made script
abbrev pub HasBegunMade : ℕ → Reporting → Type 0
HasBegunMade n f = (script : Script) × IsScriptText (made_script n) script × (lines : List (List ℕ)) × InCourse (begun script) f [] lines

-- a filter that took the made script and the made capture to their ends
abbrev pub HasEndedMade : ℕ → Reporting → Type 0
HasEndedMade n f =
    (script : Script) × IsScriptText (made_script n) script
    × (let bytes = made_capture n in
    (frames lines : List (List ℕ)) × InCourse (finished (course script (arrivals_of bytes (capture bytes).list))) f frames lines)
