-- What is worked out between reading and writing goes by its part of the plan.
use Rattle.std.proofs.Common.{◌≡◌, ◌≤◌, ◌<◌, ℕ, List, Bool, true, false, cond, ltb, Option, None, Some, Result, Ok, Err, refl, sym, ap, subst, ◌∙◌}
use Rattle.std.proofs.lemmas.Bool.{le-ltb, lt-ltb}
use Rattle.size_fit.specs.Sizes.{base, base_for, limit_of, limit_for}
use Rattle.policy_state.specs.declared.basis.Basis.{Basis}
use Rattle.policy_state.specs.declared.basis.Script.{Script}
use Rattle.script_text.specs.ScriptLines.{Contents, contents_of}
use Rattle.script_text.specs.Scripts.{IsScriptText}
use Rattle.script_text.specs.ScriptReading.{Fails, script_answer}
use Rattle.script_text.specs.declared.script_error.ScriptError.{ScriptError}
use Rattle.script_text.specs.declared.script_error.ScriptError.TheVariants.{Bad}
use Rattle.script_text.specs.declared.script_error.ScriptKind.{ScriptKind}
use Rattle.command_plan.specs.declared.fault.Refusal.{Refusal}
use Rattle.command_plan.specs.declared.fault.Refusal.TheVariants.{BadScript, TooLarge}
use Rattle.command_plan.specs.declared.fault.Fault.TheVariants as faults
use Rattle.command_plan.specs.Follows.{Follows, Thinks}
use Rattle.command_plan.specs.Plan.{picks, unless}
use Rattle.command_plan.proofs.Following.{done, fails, picked, refused, then_on}
use Rattle.command_plan.proofs.Texts.{ended}
use Rattle.apf_run.specs.Filter.{reads_script, says_something}
use Rattle.apf_run.specs.Program.{IsBasisOf, IsCodeOf, generates, setting_refusal}
use Rattle.apf_run.specs.Settings.{Setting}

-- ---- `program`

module _ (setting : Setting) (basis : Basis) (is : IsBasisOf setting basis) where
  base_is : base basis.config basis.state ≡ base_for 0 0
  base_is = rw (is.deny, is.state) refl

  limit_is : limit_of basis.config ≡ limit_for setting.capacity
  limit_is = ap limit_for is.capacity

  abbrev Room : Bool → Option Refusal
  Room t = cond t (Some (TooLarge (base_for 0 0) (limit_for setting.capacity))) None

  has_room : base_for 0 0 ≤ limit_for setting.capacity → setting_refusal setting ≡ None
  has_room fits = by_test (ltb (limit_for setting.capacity) (base_for 0 0)) (le-ltb _ _ fits)
    where
      by_test : (t : Bool) → t ≡ false → Room t ≡ None
      by_test true e = absurd cc
      by_test false e = refl

  has_none : limit_for setting.capacity < base_for 0 0 → setting_refusal setting ≡ Some (TooLarge (base_for 0 0) (limit_for setting.capacity))
  has_none lt = by_test (ltb (limit_for setting.capacity) (base_for 0 0)) (lt-ltb _ _ lt)
    where
      by_test : (t : Bool) → t ≡ true → Room t ≡ Some (TooLarge (base_for 0 0) (limit_for setting.capacity))
      by_test true e = refl
      by_test false e = absurd cc

  pub generated : (need limit : ℕ) (code : List ℕ) → need ≡ base basis.config basis.state → limit ≡ limit_of basis.config → need ≤ limit → IsCodeOf setting code → Thinks (generates setting) (Ok code)
  generated need limit code n l fits of = record {
    at = λ s.
        then_on (unless (setting_refusal setting)) (λ _. picks (IsCodeOf setting)) tt s s s (Ok code)
        (subst (λ (o : Option Refusal). Follows (unless o) s s (Ok tt)) (sym (has_room (subst (λ (m : ℕ). m ≤ limit_for setting.capacity) (n ∙ base_is) (subst (λ (m : ℕ). need ≤ m) (l ∙ limit_is) fits)))) (ended None s))
        (picked (IsCodeOf setting) code s (Ok code) refl of);
  }

  pub not_generated : (need limit : ℕ) → need ≡ base basis.config basis.state → limit ≡ limit_of basis.config → limit < need → Thinks (generates setting) (Err (faults.Refused (TooLarge need limit)))
  not_generated need limit n l lt =
      let small : limit_for setting.capacity < base_for 0 0 = subst (λ (m : ℕ). m < base_for 0 0) (l ∙ limit_is) (subst (λ (m : ℕ). limit < m) (n ∙ base_is) lt) in
      let same : TooLarge need limit ≡ TooLarge (base_for 0 0) (limit_for setting.capacity) = ap (λ m. TooLarge m limit) (n ∙ base_is) ∙ ap (λ m. TooLarge (base_for 0 0) m) (l ∙ limit_is) in
      record {
        at = λ s.
            fails (unless (setting_refusal setting)) (λ _. picks (IsCodeOf setting)) (faults.Refused (TooLarge need limit)) s s _ refl
            (subst (λ (o : Option Refusal). Follows (unless o) s s (Err (faults.Refused (TooLarge need limit)))) (sym (has_none small ∙ ap (λ (r : Refusal). Some r) (sym same))) (ended (Some (TooLarge need limit)) s));
      }

-- ---- `filter`

module _ (text : List ℕ) where
  pub script_read : (script : Script) → IsScriptText text script → script_answer text ≡ Ok (contents_of script) → Thinks (reads_script text) (Ok script)
  script_read script is told = record {
    at = λ s.
        then_on (says_something (script_answer text)) (λ _. picks (IsScriptText text)) tt s s s (Ok script)
        (subst (λ (r : Result Contents ScriptError). Follows (says_something r) s s (Ok tt)) (sym told) (done tt s (Ok tt) refl))
        (picked (IsScriptText text) script s (Ok script) refl is);
  }

  pub script_bad : (error : ScriptError) (line : ℕ) (kind : ScriptKind) → error ≡ Bad line kind → Fails error (script_answer text) → Thinks (reads_script text) (Err (faults.Refused (BadScript line kind)))
  script_bad error line kind is fails_so = record {
    at = λ s.
        fails (says_something (script_answer text)) (λ _. picks (IsScriptText text)) (faults.Refused (BadScript line kind)) s s _ refl
        (subst (λ (r : Result Contents ScriptError). Follows (says_something r) s s (Err (faults.Refused (BadScript line kind))))
        (sym (subst (λ (e : ScriptError). Fails e (script_answer text)) is fails_so)) (refused (BadScript line kind) s _ refl));
  }
