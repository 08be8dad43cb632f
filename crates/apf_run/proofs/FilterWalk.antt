-- How far `filter` came, by the lines with which it may end so.
use Rattle.std.proofs.Common.{◌≡◌, ◌⊎◌, inl, inr, ℕ, List, [], ◌∷◌, ◌++◌, take, drop, append-nil, Bool, true, false, cond, codes, Option, None, Some, Result, Ok, Err, subst, sym, ap, ◌∙◌}
use Rattle.std.specs.List.{list_all}
use Rattle.std.specs.Prelude.{option_and_then}
use Rattle.command_line.specs.Lines.{is_plain, line_of, usage_of}
use Rattle.policy_state.specs.declared.basis.Script.{Script}
use Rattle.pcap_files.specs.Stream.{Told}
use Rattle.filter_core.specs.Replay as replay
use Rattle.filter_report.specs.Streaming.{IsReplayed, record_shares, replays}
use Rattle.pcap_files.specs.declared.fault.PcapError.{PcapError}
use Rattle.command_plan.proofs.Texts.{end_of}
use Rattle.command_plan.specs.Weaving.{Share, refusal_by, weaves, weaves_all}
use Rattle.command_plan.specs.declared.fault.Input.{Input}
use Rattle.std.proofs.lemmas.List.{take-append-drop}
use Rattle.script_text.specs.ScriptLines.{Contents}
use Rattle.script_text.specs.Scripts.{IsScriptText}
use Rattle.script_text.specs.ScriptReading.{script_answer}
use Rattle.script_text.specs.declared.script_error.ScriptError.{ScriptError}
use Rattle.script_text.specs.declared.script_error.ScriptError.TheVariants as scripts
use Rattle.command_plan.specs.Ending.{EndsAs, MayEnd}
use Rattle.command_plan.specs.Files.{FileFails, input}
use Rattle.command_plan.specs.Meaning.{MayEndBy}
use Rattle.command_plan.specs.Plan.{Done, MayHold, MayTell, ◌>>=◌, opens, picks, says, unless}
use Rattle.command_plan.specs.declared.fault.FileKind.TheVariants as files
use Rattle.command_plan.specs.declared.fault.Refusal.{Refusal}
use Rattle.command_plan.specs.declared.fault.Fault.{Fault}
use Rattle.command_plan.specs.declared.fault.Fault.TheVariants as faults
use Rattle.apf_run.specs.Commands.{meaning_for, words_meaning}
use Rattle.apf_run.specs.Filter.{IsFirstLine, filter_plan, filters, script_refusal, says_something}

-- ---- records that are taken one after another

-- A call that takes a capture and writes its lines as the records come in ends by a cause from outside or by want of
-- memory, or with all its lines and as the capture ends.
pub data WovenEnd (which : Input) (fault : Option PcapError) (end : Result (Unit {0}) Fault) (lines written : List (List ℕ)) : Type 0 where
  unwritten : (end ≡ Err faults.OutOfMemory) ⊎ (end ≡ Err faults.Write) → WovenEnd which fault end lines written
  untaken : end ≡ Err (faults.Read which) → WovenEnd which fault end lines written
  whole : written ≡ lines → end ≡ end_of (refusal_by fault) → WovenEnd which fault end lines written

module _ (file : List ℕ → Option (List ℕ)) (which : Input) (fault : Option PcapError) (end : Result (Unit {0}) Fault) where
  refusal_case : (o : Option PcapError) (lines : List (List ℕ)) → MayEnd (unless (refusal_by o)) file lines end → EndsAs (end_of (refusal_by o)) lines end
  unfolding MayEnd
  refusal_case None lines h = h
  refusal_case (Some refusal) lines h = h

  ends_whole : (lines written more : List (List ℕ)) → written ≡ lines ++ more → EndsAs (end_of (refusal_by fault)) more end → WovenEnd which fault end lines written
  ends_whole lines written more are h =
      elim h.1 [
        | inl e ↦ whole (are ∙ ap (λ (l : List (List ℕ)). lines ++ l) h.0 ∙ append-nil lines) e
        | inr e ↦ unwritten (inl e)
      ]

  untold : {lines written : List (List ℕ)} → (end ≡ Err faults.OutOfMemory) ⊎ (end ≡ Err (faults.Read which)) → WovenEnd which fault end lines written
  untold (inl e) = unwritten (inl e)
  untold (inr e) = untaken e

  behind : (these rest lines written more : List (List ℕ)) → these ++ rest ≡ lines → written ≡ these ++ more → WovenEnd which fault end rest more → WovenEnd which fault end lines written
  behind these rest lines written more all are (unwritten h) = unwritten h
  behind these rest lines written more all are (untaken e) = untaken e
  behind these rest lines written more all are (whole same e) = whole (are ∙ ap (λ (l : List (List ℕ)). these ++ l) same ∙ all) e

  pub woven_ends : (shares : List Share) (lines written : List (List ℕ)) → MayEnd (weaves_all which fault shares lines) file written end → WovenEnd which fault end lines written
  unfolding MayEnd ◌>>=◌ weaves
  woven_ends [] lines written h =
      elim h [
        | inl none ↦ untold none.1
        | inr taken ↦ elim taken [
          | inl front ↦ unwritten front.1
          | inr all ↦ ends_whole lines written all.0 all.1 (refusal_case fault all.0 all.2)
        ]
      ]
  woven_ends (share ∷ shares) lines written h =
      elim h [
        | inl none ↦ untold none.1
        | inr taken ↦ elim taken [
          | inl front ↦ unwritten front.1
          | inr all ↦
              let rest = drop share.count lines in
              behind (take share.count lines) rest lines written all.0 (take-append-drop share.count lines) all.1 (woven_ends shares rest all.0 all.2)
        ]
      ]

-- ---- `filter`

-- the script that was read of a file, and the line of its first install
pub record Begun (told : Option (List ℕ)) : Type 0 where
  pub text : List ℕ
  pub held : MayHold (input files.Script 1) told text
  pub script : Script
  pub is : IsScriptText text script
  pub line : List ℕ
  pub first : IsFirstLine script line

module _ (file : List ℕ → Option (List ℕ)) (s c : List ℕ) (end : Result (Unit {0}) Fault) where
  pub data Came (lines : List (List ℕ)) : Type 0 where
    -- it ended before it wrote
    before : lines ≡ [] → (end ≡ Ok tt → ⊥) → Came lines
    -- it ended within its lines
    within : (end ≡ Err faults.OutOfMemory) ⊎ (end ≡ Err faults.Write) → Came lines
    -- it wrote its first line, and could not open its capture
    begun : (b : Begun (file s)) → lines ≡ b.line ∷ [] → (fault : Fault) → end ≡ Err fault → FileFails (input files.Capture 2) ⊥ fault → Came lines
    -- a read of its capture failed
    unread : end ≡ Err (faults.Read (input files.Capture 2)) → Came lines
    -- it took its capture to the end or to its first fault, and wrote all lines
    replayed : (b : Begun (file s)) (more : List (List ℕ)) → lines ≡ b.line ∷ more → (found : Told) → MayTell (file c) found → IsReplayed b.script found (b.line ∷ more)
        → end ≡ end_of (refusal_by found.end) → Came lines

  not_well : (fault : Fault) → end ≡ Err fault → end ≡ Ok tt → ⊥
  not_well fault is ok = let e : ◌≡◌ {A = Result (Unit {0}) Fault} (Ok tt) (Err fault) = sym ok ∙ is in cc

  failed : (fault : Fault) (lines : List (List ℕ)) → EndsAs (Err fault) lines end → Came lines
  failed fault lines h =
      elim h.1 [
        | inl e ↦ before h.0 (not_well fault e)
        | inr e ↦ before h.0 (not_well faults.OutOfMemory e)
      ]

  replay_case : (b : Begun (file s)) (lines more : List (List ℕ)) → lines ≡ b.line ∷ more → (found : Told) → MayTell (file c) found
      → MayEnd (replays (input files.Capture 2) b.script b.line found) file more end → Came lines
  unfolding MayEnd ◌>>=◌
  replay_case b lines more are found tells h =
      elim h [
        | inl lack ↦ elim lack.1 [
          | inl e ↦ within (inl e)
          | inr e ↦ within (inl e)
        ]
        | inr some ↦ by_end some.0 some.1 (woven_ends file (input files.Capture 2) found.end end (record_shares (replay.begun b.script) found.list) some.0 more some.2)
      ]
    where
      by_end : (all : List (List ℕ)) → IsReplayed b.script found (b.line ∷ all) → WovenEnd (input files.Capture 2) found.end end all more → Came lines
      by_end all is (unwritten h) = within h
      by_end all is (untaken e) = unread e
      by_end all is (whole same e) = replayed b more are found tells (subst (λ (l : List (List ℕ)). IsReplayed b.script found (b.line ∷ l)) (sym same) is) e

  room_case : (text : List ℕ) → MayHold (input files.Script 1) (file s) text → (script : Script) → IsScriptText text script → (lines : List (List ℕ)) (o : Option Refusal)
      → MayEnd ((unless o >>= λ _. picks (IsFirstLine script) >>= λ line. says (line ∷ []) >>= λ _. Done line) >>= λ line. opens (input files.Capture 2) c >>= λ found. replays (input files.Capture 2) script line found) file lines end
      → Came lines
  unfolding MayEnd ◌>>=◌
  room_case text held script is lines None h =
      elim h [
        | inl lack ↦ failed faults.OutOfMemory lines lack
        | inr some ↦
            let b : Begun (file s) = record { text = text; held = held; script = script; is = is; line = some.0; first = some.1 } in
            elim some.2 [
              | inl front ↦ within front.1
              | inr all ↦ elim all.2 [
                | inl fails ↦ begun b (all.1 ∙ ap (λ (l : List (List ℕ)). some.0 ∷ l) fails.0) fails.1 fails.2 fails.3
                | inr opened ↦ replay_case b lines all.0 all.1 opened.0 opened.1 opened.2
              ]
            ]
      ]
  room_case text held script is lines (Some refusal) h = failed (faults.Refused refusal) lines h

  script_case : (text : List ℕ) → MayHold (input files.Script 1) (file s) text → (lines : List (List ℕ)) (r : Result Contents ScriptError)
      → MayEnd ((says_something r >>= λ _. picks (IsScriptText text)) >>= λ read. filters read c) file lines end → Came lines
  unfolding MayEnd ◌>>=◌
  script_case text held lines (Ok contents) h =
      elim h [
        | inl lack ↦ failed faults.OutOfMemory lines lack
        | inr some ↦ room_case text held some.0 some.1 lines (script_refusal some.0) some.2
      ]
  script_case text held lines (Err (scripts.Bad line kind)) h = failed _ lines h
  script_case text held lines (Err scripts.OutOfMemory) h =
      elim h [
        | inl lack ↦ failed faults.OutOfMemory lines lack
        | inr some ↦ absurd some.0
      ]

  pub came : (lines : List (List ℕ)) → MayEnd (filter_plan s c) file lines end → Came lines
  unfolding MayEnd ◌>>=◌
  came lines h =
      elim h [
        | inl fails ↦ before fails.0 (not_well fails.1 fails.2)
        | inr read ↦ script_case read.0 read.1 lines (script_answer read.0) read.2
      ]

  -- the words are `filter` and two names
  by_test : (lines : List (List ℕ)) (t : Bool) → MayEndBy (meaning_for (cond t (option_and_then (λ u. line_of (codes "filter") u.words (s ∷ c ∷ [])) (usage_of (codes "filter"))) None)) file lines end
      → Came lines
  by_test lines true h = came lines h
  by_test lines false h = failed faults.Usage lines h

  pub came_by : (words : List (List ℕ)) (lines : List (List ℕ)) → words ≡ codes "filter" ∷ s ∷ c ∷ [] → MayEndBy (words_meaning words) file lines end → Came lines
  came_by words lines is h = by_test lines (list_all is_plain (s ∷ c ∷ [])) (subst (λ (ws : List (List ℕ)). MayEndBy (words_meaning ws) file lines end) is h)
