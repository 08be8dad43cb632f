-- Events, and the start.
use Rattle.std.proofs.Common.{◌≡◌, ℕ, List, [], ◌∷◌, ◌++◌, refl, sym, ap, subst, ◌∙◌}
use Rattle.policy_state.specs.declared.basis.Script.{Script}
use Rattle.policy_state.specs.declared.basis.Timed.{Timed}
use Rattle.policy_state.specs.declared.basis.UpdateReply.{UpdateReply}
use Rattle.policy_state.specs.declared.basis.UpdateReply.TheVariants as updates
use Rattle.policy_state.specs.declared.config.Config.{Config}
use Rattle.filter_core.proofs.Answering.{meaning}
use Rattle.filter_core.proofs.Counting.{memory_of-none}
use Rattle.filter_core.specs.Calls.{Renews, update_installs}
use Rattle.filter_core.specs.Coded.{plain}
use Rattle.filter_core.specs.Installs.{Installed, install_of}
use Rattle.filter_core.specs.Replay.{Course, reply, tells, update_entries, after_event, begun}
use Rattle.filter_core.specs.Standing.{Standing, filter_of}
use Rattle.filter_core.specs.Steps.{Filter, first, updated}
use Rattle.script_text.specs.Report.{gen_line, update_line}
use Rattle.filter_report.proofs.Telling.{told_plain, told_install}
use Rattle.filter_report.specs.Along.{Along, IsFirstCore}
use Rattle.filter_report.specs.Report.{AllFit}
use Rattle.filter_report.specs.Text.{entry_lines}

-- ---- one event

-- the line that an update with this reply has
abbrev pub LineOf : UpdateReply → Standing → List ℕ → Type 0
LineOf updates.Installed new line = line ≡ gen_line new.install.number new.install.at new.install.left new.install.code
LineOf updates.Same new line = line ≡ update_line updates.Same new.clock
LineOf (updates.Refused e) new line = line ≡ update_line (updates.Refused e) new.clock
LineOf (updates.NotInstalled need limit) new line = line ≡ update_line (updates.NotInstalled need limit) new.clock

pub line_of_other : (r : UpdateReply) (new : Standing) (line : List ℕ) → (r ≡ updates.Installed → ⊥) → line ≡ update_line r new.clock → LineOf r new line
line_of_other updates.Installed new line other shown = absurd (other refl)
line_of_other updates.Same new line other shown = shown
line_of_other (updates.Refused e) new line other shown = shown
line_of_other (updates.NotInstalled need limit) new line other shown = shown

module _ (c : Course) (core new : Standing) (frames lines : List (List ℕ)) (line : List ℕ) (f : Filter) where
  other : (r : UpdateReply) → Along c core frames lines → filter_of new ≡ f → new.memory ≡ core.memory → new.install ≡ core.install → line ≡ update_line r new.clock
      → Along (tells c f (reply r f.clock ∷ [])) new frames (lines ++ line ∷ [])
  other r a is kept same shown =
      told_plain c core new frames lines f (reply r f.clock) line a is same kept refl refl (λ programs steps. ap (λ (g : Filter). update_line r g.clock) (sym is) ∙ sym shown)

  pub told_step : (r : UpdateReply) → Along c core frames lines → filter_of new ≡ f → new.memory ≡ core.memory → Renews (update_installs r) core.install new.install → LineOf r new line
      → Along (tells c f (update_entries (f, r))) new frames (lines ++ line ∷ [])
  told_step updates.Installed a is kept next shown = rw shown (told_install c core new frames lines f a is next kept)
  told_step updates.Same a is kept same shown = other updates.Same a is kept same shown
  told_step (updates.Refused e) a is kept same shown = other (updates.Refused e) a is kept same shown
  told_step (updates.NotInstalled need limit) a is kept same shown = other (updates.NotInstalled need limit) a is kept same shown

-- an event keeps the report along
pub told_event : (c : Course) (core new : Standing) (frames lines : List (List ℕ)) (line : List ℕ) (event : Timed) (r : UpdateReply) →
    Along c core frames lines → r ≡ (updated (filter_of core) event.update event.time).1 → filter_of new ≡ (updated (filter_of core) event.update event.time).0 →
    Renews (update_installs r) core.install new.install → new.memory ≡ core.memory → LineOf r new line →
    Along (after_event c event) new frames (lines ++ line ∷ [])
told_event c core new frames lines line event r a replied is renews kept shown =
    let after = updated (filter_of core) event.update event.time in
    subst (λ (f : Filter). let after = updated f event.update event.time in Along (tells c after.0 (update_entries after)) new frames (lines ++ line ∷ [])) a.at
    (subst (λ (q : UpdateReply). Along (tells c after.0 (update_entries (after.0, q))) new frames (lines ++ line ∷ [])) replied
    (told_step c core new frames lines line after.0 r a is kept renews shown))

-- ---- the start

-- install 0, its line and nothing else
pub told_first : (script : Script) (core : Standing) (line : List ℕ) → IsFirstCore script.config script.start core →
    line ≡ gen_line core.install.number core.install.at core.install.left core.install.code → Along (begun script) core [] (line ∷ [])
unfolding entry_lines install_of
told_first script core line is shown =
    let same : plain core.install ≡ (first script.config script.start).install = ap (λ (f : Filter). f.install) is.filter in
    let none : core.install.number ≡ 0 = ap (λ (f : Filter). f.install.number) is.filter in
    record {
      programs = core.install.code ∷ [];
      fit = subst (λ (i : Installed). AllFit (core.install.code ∷ []) (i ∷ [])) same (record { means = meaning core.install; size = core.install.short; room = core.install.fits; bytes = core.install.bytes }, tt);
      stands = rw none refl;
      count = rw none refl;
      at = is.filter;
      memory = is.memory ∙ sym memory_of-none;
      answered = refl;
      taken = refl;
      telling = λ more later. ap (λ (l : List ℕ). l ∷ []) (shown ∙ ap (λ (i : Installed). gen_line i.number i.at i.left core.install.code) same);
    }

pub first-number : (core : Standing) (config : Config) (now : ℕ) → IsFirstCore config now core → core.install.number ≡ 0
unfolding install_of
first-number core config now is = ap (λ (f : Filter). f.install.number) is.filter
