-- What the headline says of a run of `filter`.
use Rattle.std.specs.Prelude.{ℕ, List, Option}
use Rattle.apf_base.specs.Streams.{AppendsAll}
use Rattle.policy_state.specs.declared.basis.Script.{Script}
use Rattle.script_text.specs.Scripts.{IsScriptText}
use Rattle.pcap_files.specs.Capture.{capture}
use Rattle.filter_core.specs.Arrivals.{arrivals_of}
use Rattle.filter_report.specs.Report.{IsReport}

-- THE HEADLINE: of a text and a capture, the report of the script that the text is the text of was written, and nothing
-- else.
abbrev pub IsFiltered : List ℕ → List ℕ → Option (List ℕ) → Option (List ℕ) → Type 0
IsFiltered text bytes old new =
    (script : Script) × IsScriptText text script
    × (lines : List (List ℕ)) × IsReport script (arrivals_of bytes (capture bytes).list) lines
    × AppendsAll old new lines
