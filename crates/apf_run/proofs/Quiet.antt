-- What the words mean, as far as it says when lines are written and files are read: each command but `filter` opens its
-- files before it writes, and each that opens files reads the last one to its end.
use Rattle.std.proofs.Common.{◌≡◌, ◌⊎◌, inl, inr, ℕ, List, [], ◌∷◌, Bool, true, false, codes, Option, None, Some, Result, Ok, Err, refl, ap, ◌∙◌}
use Rattle.std.specs.List.{list_all}
use Rattle.std.specs.Str.{bytes_eq}
use Rattle.std.specs.Prelude.{cond, option_and_then, option_map}
use Rattle.plain_text.proofs.Words.{equal_words}
use Rattle.command_line.specs.Lines.{Further, one, two, three, four, Usage, further_of, is_plain, line_of, named, usage_of}
use Rattle.pcap_files.specs.Stream.{Told}
use Rattle.policy_state.specs.declared.basis.Script.{Script}
use Rattle.script_text.specs.ScriptLines.{Contents}
use Rattle.script_text.specs.ScriptReading.{script_answer}
use Rattle.script_text.specs.Scripts.{IsScriptText}
use Rattle.script_text.specs.declared.script_error.ScriptError.{ScriptError}
use Rattle.script_text.specs.declared.script_error.ScriptError.TheVariants as scripts
use Rattle.command_plan.specs.Files.{input}
use Rattle.command_plan.specs.Meaning.{CommandMeaning, nothing, command, spelled, named_so}
use Rattle.command_plan.specs.Plan.{Plan, Done, ◌>>=◌, opens, picks, says, unless, IsQuiet, ReadsWhole}
use Rattle.command_plan.specs.declared.fault.FileKind.TheVariants as files
use Rattle.command_plan.specs.declared.fault.Refusal.{Refusal}
use Rattle.command_plan.proofs.Weaving.{woven_reads}
use Rattle.filter_core.specs.Replay.{begun}
use Rattle.filter_report.specs.Streaming.{record_shares, replays}
use Rattle.code_commands.specs.Asm.{asm_plan}
use Rattle.code_commands.proofs.Sound.{exec_sound, asm_sound, disasm_sound}
use Rattle.apf_run.specs.Commands.{IsNamed, meaning_by, meaning_for, words_meaning}
use Rattle.code_commands.specs.Disasm.{disasm_plan}
use Rattle.code_commands.specs.Exec.{exec_meaning, exec_plan}
use Rattle.apf_run.specs.Filter.{IsFirstLine, filter_plan, filters, script_refusal, says_something}
use Rattle.apf_run.specs.Make.{make_meaning, makes}
use Rattle.apf_run.specs.Program.{IsCodeOf, code_line, program_meaning, program_plan}
use Rattle.apf_run.specs.Program as programs
use Rattle.apf_run.specs.Settings.{Setting, making_for, setting_for}
use Rattle.apf_run.specs.declared.setting.What.{What}
use Rattle.apf_run.specs.declared.setting.What.TheVariants as made
use Rattle.plain_text.specs.Numbers.{number_within}

-- ---- plans that open no file

by_room : (setting : Setting) (o : Option Refusal) → IsQuiet false false ((unless o >>= λ _. picks (IsCodeOf setting)) >>= λ code. says (code_line code ∷ []))
unfolding IsQuiet ◌>>=◌
by_room setting None = λ code has. tt
by_room setting (Some refusal) = tt

program_quiet : (setting : Setting) → IsQuiet false false (program_plan setting)
program_quiet setting = by_room setting (programs.setting_refusal setting)

makes_quiet : (what : What) (n : ℕ) → IsQuiet false false (makes what n)
unfolding IsQuiet ◌>>=◌
makes_quiet made.Script n = tt
makes_quiet made.Capture n = tt
makes_quiet made.Summary n = λ lines are. tt

-- ---- `filter`, which opens its capture behind its first line, and reads it to its end

replays_whole : (script : Script) (line : List ℕ) (found : Told) → ReadsWhole false (replays (input files.Capture 2) script line found)
unfolding ReadsWhole ◌>>=◌
replays_whole script line found = λ more are. woven_reads (input files.Capture 2) false found.end (record_shares (begun script) found.list) more

room_whole : (script : Script) (c : List ℕ) (o : Option Refusal)
    → ReadsWhole true ((unless o >>= λ _. picks (IsFirstLine script) >>= λ line. says (line ∷ []) >>= λ _. Done line) >>= λ line. opens (input files.Capture 2) c >>= λ found. replays (input files.Capture 2) script line found)
unfolding ReadsWhole ◌>>=◌
room_whole script c None = λ line first found. replays_whole script line found
room_whole script c (Some refusal) = tt

script_whole : (text c : List ℕ) (r : Result Contents ScriptError) → ReadsWhole true ((says_something r >>= λ _. picks (IsScriptText text)) >>= λ read. filters read c)
unfolding ReadsWhole ◌>>=◌
script_whole text c (Ok contents) = λ script is. room_whole script c (script_refusal script)
script_whole text c (Err (scripts.Bad line kind)) = tt
script_whole text c (Err scripts.OutOfMemory) = λ x has. absurd x

pub filter_whole : (s c : List ℕ) → ReadsWhole false (filter_plan s c)
unfolding ReadsWhole ◌>>=◌
filter_whole s c = λ text. script_whole text c (script_answer text)

-- ---- all words

-- What holds of nothing, of each plan that opens its files before it writes and reads the last one to its end, of `exec`,
-- which takes its last one by and by, of each that opens no file, and of `filter`, holds of what any words mean.
module _ (words : List (List ℕ)) (P : CommandMeaning → Type 0) (none : P nothing)
    (reader : (plan : Plan (Unit {0})) → IsQuiet false false plan → ReadsWhole false plan → P (command plan))
    (taker : (plan : Plan (Unit {0})) → IsQuiet true false plan → ReadsWhole false plan → IsNamed (codes "exec") words → P (command plan))
    (writer : (plan : Plan (Unit {0})) → IsQuiet false false plan → (IsNamed (codes "program") words) ⊎ (IsNamed (codes "make") words) → P (command plan))
    (filter : (s c : List ℕ) → IsNamed (codes "filter") words → P (command (filter_plan s c))) where
  by_spelling : {X : Type 0} (o : Option X) (next : X → CommandMeaning) → ((x : X) → P (next x)) → P (spelled o next)
  by_spelling None next h = none
  by_spelling (Some x) next h = h x

  one_case : (t u : Bool) (x : List ℕ) → P (named_so t (command (asm_plan x)) (named_so u (command (disasm_plan x)) nothing))
  one_case true u x = reader (asm_plan x) (asm_sound x).0 (asm_sound x).1
  one_case false true x = reader (disasm_plan x) (disasm_sound x).0 (disasm_sound x).1
  one_case false false x = none

  module _ (name : List ℕ) (rest : List (List ℕ)) (is : words ≡ name ∷ rest) where
    is_named : (word : List ℕ) → bytes_eq name word ≡ true → IsNamed word words
    is_named word same = (rest, is ∙ ap (λ (w : List ℕ). w ∷ rest) (equal_words name word same))

    two_case : (t u : Bool) (s c : List ℕ) → bytes_eq name (codes "filter") ≡ t → bytes_eq name (codes "make") ≡ u
        → P (named_so t (command (filter_plan s c)) (named_so u (make_meaning s c) nothing))
    two_case true u s c filters make = filter s c (is_named (codes "filter") filters)
    two_case false true s c filters make = by_spelling (making_for s c) _ (λ making. writer (makes making.what making.n) (makes_quiet making.what making.n) (inr (is_named (codes "make") make)))
    two_case false false s c filters make = none

    three_case : (t : Bool) (p c age : List ℕ) → bytes_eq name (codes "exec") ≡ t → P (named_so t (exec_meaning p c age) nothing)
    three_case true p c age exec =
        by_spelling (number_within 4294967295 age) _ (λ n. taker (exec_plan p c n) (exec_sound p c n).0 (exec_sound p c n).1 (is_named (codes "exec") exec))
    three_case false p c age exec = none

    four_case : (t : Bool) (mac capacity address flags : List ℕ) → bytes_eq name (codes "program") ≡ t → P (named_so t (program_meaning mac capacity address flags) nothing)
    four_case true mac capacity address flags program =
        by_spelling (setting_for mac capacity address flags) _ (λ setting. writer (program_plan setting) (program_quiet setting) (inl (is_named (codes "program") program)))
    four_case false mac capacity address flags program = none

    by_further : (further : Further) → P (meaning_by name further)
    by_further (one x) = one_case (bytes_eq name (codes "asm")) (bytes_eq name (codes "disasm")) x
    by_further (two s c) = two_case (bytes_eq name (codes "filter")) (bytes_eq name (codes "make")) s c refl refl
    by_further (three p c age) = three_case (bytes_eq name (codes "exec")) p c age refl
    by_further (four mac capacity address flags) = four_case (bytes_eq name (codes "program")) mac capacity address flags refl

    by_line : (o : Option Further) → P (meaning_for (option_map (named name) o))
    by_line None = none
    by_line (Some further) = by_further further

    by_count : (t : Bool) (o : Option Further) → P (meaning_for (cond t (option_map (named name) o) None))
    by_count true o = by_line o
    by_count false o = none

    by_usage : (t : Bool) (u : Option Usage) → P (meaning_for (cond t (option_and_then (λ v. line_of name v.words rest) u) None))
    by_usage true None = none
    by_usage true (Some u) = by_count _ (further_of rest)
    by_usage false u = none

  by_first : (all : List (List ℕ)) → words ≡ all → P (words_meaning all)
  by_first [] is = none
  by_first (name ∷ rest) is = by_usage name rest is (list_all is_plain rest) (usage_of name)

  pub by_words : P (words_meaning words)
  by_words = by_first words refl
