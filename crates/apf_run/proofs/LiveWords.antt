-- What the words of `live` mean, as far as it says when lines are written and files are read, and what stands where all went
-- well: everything is read, checked and answered before the first line.
use Rattle.std.proofs.Common.{◌≡◌, ◌⊎◌, inl, inr, ℕ, List, [], ◌∷◌, Bool, true, false, cond, codes, Option, None, Some, Result, Ok, Err, refl, ap, sym, subst, ◌∙◌, append-nil, arith, IsTrue}
use Rattle.std.specs.Prelude.{IfSome, OnOk, option_and_then}
use Rattle.std.specs.List.{list_all}
use Rattle.std.specs.Io.KnownBytes.{Appends, IsAtEnd, Keeps}
use Rattle.command_line.specs.Lines.{Line, Further, one, two, three, four, is_plain, line_of, split_of, usage_of}
use Rattle.filter_core.specs.Arrivals.{arrivals_of}
use Rattle.filter_report.specs.Live.{IsLive}
use Rattle.pcap_files.specs.Capture.{capture}
use Rattle.pcap_files.specs.declared.fault.PcapError.{PcapError}
use Rattle.policy_state.specs.declared.basis.Script.{Script}
use Rattle.program_swap.specs.Order.{EndState}
use Rattle.script_text.specs.ScriptLines.{Contents}
use Rattle.script_text.specs.ScriptReading.{script_answer}
use Rattle.script_text.specs.Scripts.{IsScriptText}
use Rattle.script_text.specs.declared.script_error.ScriptError.{ScriptError}
use Rattle.script_text.specs.declared.script_error.ScriptError.TheVariants as scripts
use Rattle.command_plan.specs.Ending.{Leaves, MayEnd}
use Rattle.command_plan.specs.Files.{input}
use Rattle.command_plan.specs.Follows.{Stage}
use Rattle.command_plan.specs.Meaning.{CommandMeaning, nothing, command, named_so, spelled, Does, MayEndBy}
use Rattle.command_plan.specs.Plan.{Plan, ◌>>=◌, asks, picks, says, unless, ReadsWhole}
use Rattle.command_plan.specs.Status.{status_of}
use Rattle.command_plan.specs.declared.fault.Fault.{Fault}
use Rattle.command_plan.specs.declared.fault.Fault.TheVariants as faults
use Rattle.command_plan.specs.declared.fault.FileKind.TheVariants as files
use Rattle.command_plan.specs.declared.fault.Refusal.{Refusal}
use Rattle.command_plan.proofs.Endings.{does_refuse, does_stands, does_whole, ended_well, leaves_all}
use Rattle.apf_run.specs.Filter.{script_refusal, says_something}
use Rattle.apf_run.specs.Live.{HasLivedBy, capture_refusal, lanes_of, live_by, live_for, live_meaning, live_plan, live_words_meaning, lives, lives_over}

-- ---- the plan writes last

abbrev Answer : Type 0
Answer = Result (Unit {0}) Fault

-- an end with which lines may stand
abbrev IsLoud : Answer → Type 0
IsLoud end = (end ≡ Ok tt) ⊎ ((end ≡ Err faults.OutOfMemory) ⊎ (end ≡ Err faults.Write))

abbrev SaysLast : List (List ℕ) → Answer → Type 0
SaysLast lines end = (lines ≡ []) ⊎ IsLoud end

module _ (file : List ℕ → Option (List ℕ)) (lines : List (List ℕ)) (end : Answer) where
  says_last : (these : List (List ℕ)) → MayEnd (says these) file lines end → IsLoud end
  unfolding MayEnd
  says_last these (inl (front, inl e)) = inr (inl e)
  says_last these (inl (front, inr e)) = inr (inr e)
  says_last these (inr (more, is, (nil, inl e))) = inl e
  says_last these (inr (more, is, (nil, inr e))) = inr (inl e)

  lives_last : (script : Script) (bytes : List ℕ) (lanes : ℕ) → MayEnd (lives script bytes lanes) file lines end → SaysLast lines end
  unfolding MayEnd ◌>>=◌
  lives_last script bytes lanes (inl (nil, how)) = inl nil
  lives_last script bytes lanes (inr (inl (nil, how))) = inl nil
  lives_last script bytes lanes (inr (inr (these, are, more))) = inr (says_last these more)

  over_last : (script : Script) (bytes : List ℕ) (lanes : ℕ) (o : Option Refusal) → MayEnd (unless o >>= λ _. lives script bytes lanes) file lines end → SaysLast lines end
  unfolding MayEnd ◌>>=◌
  over_last script bytes lanes None h = lives_last script bytes lanes h
  over_last script bytes lanes (Some refusal) (nil, how) = inl nil

  room_last : (script : Script) (path : List ℕ) (lanes : ℕ) (o : Option Refusal)
      → MayEnd (unless o >>= λ _. asks (input files.Capture 2) path >>= λ bytes. unless (capture_refusal (capture bytes).end) >>= λ _. lives script bytes lanes) file lines end → SaysLast lines end
  unfolding MayEnd ◌>>=◌
  room_last script path lanes None (inl (nil, fault, is, fails)) = inl nil
  room_last script path lanes None (inr (bytes, held, more)) = over_last script bytes lanes (capture_refusal (capture bytes).end) more
  room_last script path lanes (Some refusal) (nil, how) = inl nil

  script_last : (text path : List ℕ) (lanes : ℕ) (r : Result Contents ScriptError)
      → MayEnd ((says_something r >>= λ _. picks (IsScriptText text)) >>= λ read. lives_over read path lanes) file lines end → SaysLast lines end
  unfolding MayEnd ◌>>=◌
  script_last text path lanes (Ok contents) (inl (nil, how)) = inl nil
  script_last text path lanes (Ok contents) (inr (script, is, more)) = room_last script path lanes (script_refusal script) more
  script_last text path lanes (Err (scripts.Bad line kind)) (nil, how) = inl nil
  script_last text path lanes (Err scripts.OutOfMemory) (inl (nil, how)) = inl nil
  script_last text path lanes (Err scripts.OutOfMemory) (inr (x, has, more)) = absurd x

  plan_last : (script path : List ℕ) (lanes : ℕ) → MayEnd (live_plan script path lanes) file lines end → SaysLast lines end
  unfolding MayEnd ◌>>=◌
  plan_last script path lanes (inl (nil, fault, is, fails)) = inl nil
  plan_last script path lanes (inr (text, held, more)) = script_last text path lanes (script_answer text) more

-- ---- the plan reads its capture whole

over_whole : (script : Script) (bytes : List ℕ) (lanes : ℕ) (o : Option Refusal) → ReadsWhole true (unless o >>= λ _. lives script bytes lanes)
unfolding ReadsWhole ◌>>=◌
over_whole script bytes lanes None = λ lines are. refl
over_whole script bytes lanes (Some refusal) = tt

room_whole : (script : Script) (path : List ℕ) (lanes : ℕ) (o : Option Refusal)
    → ReadsWhole true (unless o >>= λ _. asks (input files.Capture 2) path >>= λ bytes. unless (capture_refusal (capture bytes).end) >>= λ _. lives script bytes lanes)
unfolding ReadsWhole ◌>>=◌
room_whole script path lanes None = λ bytes. over_whole script bytes lanes (capture_refusal (capture bytes).end)
room_whole script path lanes (Some refusal) = tt

script_whole : (text path : List ℕ) (lanes : ℕ) (r : Result Contents ScriptError) → ReadsWhole true ((says_something r >>= λ _. picks (IsScriptText text)) >>= λ read. lives_over read path lanes)
unfolding ReadsWhole ◌>>=◌
script_whole text path lanes (Ok contents) = λ script is. room_whole script path lanes (script_refusal script)
script_whole text path lanes (Err (scripts.Bad line kind)) = tt
script_whole text path lanes (Err scripts.OutOfMemory) = λ x has. absurd x

plan_whole : (script path : List ℕ) (lanes : ℕ) → ReadsWhole false (live_plan script path lanes)
unfolding ReadsWhole ◌>>=◌
plan_whole script path lanes = λ text. script_whole text path lanes (script_answer text)

-- ---- all words

module _ (P : CommandMeaning → Type 0) (none : P nothing) (runs : (script path : List ℕ) (lanes : ℕ) → P (command (live_plan script path lanes))) where
  by_lanes : (script path : List ℕ) (o : Option ℕ) → P (spelled o (λ n. command (live_plan script path n)))
  by_lanes script path None = none
  by_lanes script path (Some n) = runs script path n

  by_name : (t : Bool) (script path lanes : List ℕ) → P (named_so t (live_meaning script path lanes) nothing)
  by_name true script path lanes = by_lanes script path (lanes_of lanes)
  by_name false script path lanes = none

  by_further : (name : List ℕ) (further : Further) → P (live_by name further)
  by_further name (one a) = none
  by_further name (two a b) = none
  by_further name (three a b c) = by_name _ a b c
  by_further name (four a b c d) = none

  by_split : (o : Option Line) → P (live_for o)
  by_split None = none
  by_split (Some line) = by_further line.name line.further

  by_words : (words : List (List ℕ)) → P (live_words_meaning words)
  by_words words = by_split (split_of words)

appends_nothing : (old new : Option (List ℕ)) → Appends old new [] → Keeps old new
appends_nothing None new h = tt
appends_nothing (Some x) None h = absurd h
appends_nothing (Some x) (Some y) h = h ∙ append-nil x

module _ (words : List (List ℕ)) (a b : Stage) (end : Answer) where
  -- nothing was written too early
  module _ (ok : status_of end ≡ 0 → ⊥) (memory : status_of end ≡ 70 → ⊥) (write : status_of end ≡ 72 → ⊥) where
    not_loud : IsLoud end → ⊥
    not_loud (inl e) = ok (ap status_of e)
    not_loud (inr (inl e)) = memory (ap status_of e)
    not_loud (inr (inr e)) = write (ap status_of e)

    unwritten : end ≡ Err faults.Write → ⊥
    unwritten e = write (ap status_of e)

    keeps : (lines : List (List ℕ)) → SaysLast lines end → Leaves a.out.held b.out.held lines end → Keeps a.out.held b.out.held
    keeps lines (inl nil) h =
        appends_nothing a.out.held b.out.held
        (leaves_all a.out.held b.out.held [] end unwritten (subst (λ (l : List (List ℕ)). Leaves a.out.held b.out.held l end) nil h))
    keeps lines (inr loud) h = absurd (not_loud loud)

    pub live_quiet : Does (live_words_meaning words) a b end → Keeps a.out.held b.out.held
    live_quiet = by_words (λ m. Does m a b end → Keeps a.out.held b.out.held)
        (λ h. let s = does_stands a b end nothing h in keeps s.0 (inl s.1.0) s.2)
        (λ script path lanes h. let s = does_stands a b end (command (live_plan script path lanes)) h in keeps s.0 (plan_last a.shelf.file s.0 end script path lanes s.1) s.2) words

  -- where it ended well
  module _ (ok : status_of end ≡ 0) where
    never_done : {X : Type 0} → Does nothing a b end → X
    never_done h =
        elim (does_refuse a b end nothing h (λ e. e)) [
          | inl e ↦ absurd (omega (arith, e, ok))
          | inr e ↦ absurd (omega (arith, e, ok))
        ]

    pub live_whole : Does (live_words_meaning words) a b end → IsAtEnd b.shelf.left
    live_whole = by_words (λ m. Does m a b end → IsAtEnd b.shelf.left) never_done
        (λ script path lanes h. does_whole a b end (command (live_plan script path lanes)) h ok (plan_whole script path lanes)) words

    module _ (script path lanes : List ℕ) (ends : List EndState) where
      abbrev Lived : Line → Type 0
      Lived line = HasLivedBy line.further a.shelf.file ends a.out.held b.out.held

      abbrev split_by : Bool → Option Line
      split_by t = cond t (option_and_then (λ v. line_of (codes "live") v.words (script ∷ path ∷ lanes ∷ [])) (usage_of (codes "live"))) None

      by_plain : (t : Bool) → Does (live_for (split_by t)) a b end → OnOk end (IfSome (split_by t) Lived) → HasLivedBy (three script path lanes) a.shelf.file ends a.out.held b.out.held
      by_plain true d h = subst (λ (e : Answer). OnOk e (IfSome (split_by true) Lived)) (ended_well end ok) h
      by_plain false d h = never_done d

      pub lived_by : words ≡ codes "live" ∷ script ∷ path ∷ lanes ∷ [] → Does (live_words_meaning words) a b end → OnOk end (IfSome (split_of words) Lived)
          → HasLivedBy (three script path lanes) a.shelf.file ends a.out.held b.out.held
      lived_by is d h =
          by_plain (list_all is_plain (script ∷ path ∷ lanes ∷ [])) (subst (λ (ws : List (List ℕ)). Does (live_words_meaning ws) a b end) is d)
          (subst (λ (ws : List (List ℕ)). OnOk end (IfSome (split_of ws) Lived)) is h)
