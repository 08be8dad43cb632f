-- Events alone: one more entry, and its line, keep what holds of the installs and the lines.
use Rattle.std.proofs.Common.{◌≡◌, ℕ, suc, ◌+◌, List, [], ◌∷◌, ◌++◌, length, length-append, fold, get_or, map, refl, sym, ap, subst, ◌∙◌, append_assoc, append-nil, arith, Result, Ok, Err, OnOk}
use Rattle.std.proofs.lemmas.List.{map-append}
use Rattle.std.proofs.Math.Seq.{get_or-append_seam}
use Rattle.policy_state.specs.declared.basis.Script.{Script}
use Rattle.policy_state.specs.declared.basis.Timed.{Timed}
use Rattle.policy_state.specs.declared.basis.UpdateReply.{UpdateReply}
use Rattle.policy_state.specs.declared.basis.UpdateReply.TheVariants as updates
use Rattle.filter_core.proofs.Answering.{meaning}
use Rattle.filter_core.proofs.Growing.{installs-append}
use Rattle.filter_core.proofs.Rising.{rises_snoc}
use Rattle.filter_core.specs.Calls.{Renews, update_installs}
use Rattle.filter_core.specs.Coded.{plain}
use Rattle.filter_core.specs.Installs.{Installed, install_of}
use Rattle.filter_core.specs.Lanes.{RisesFrom, codes_of}
use Rattle.filter_core.specs.Replay.{Course, Entry, install, reply, tells, update_entries, after_event, begun, installs_of}
use Rattle.filter_core.specs.Standing.{Standing, filter_of}
use Rattle.filter_core.specs.Steps.{Filter, first, updated}
use Rattle.filter_core.specs.declared.install.Install.{Install}
use Rattle.script_text.specs.Report.{gen_line, update_line}
use Rattle.filter_report.proofs.Telling.{lines-one}
use Rattle.filter_report.specs.Along.{IsFirstCore}
use Rattle.filter_report.specs.Report.{AllFit}
use Rattle.filter_report.specs.Scripted.{HasListed, HasTold}
use Rattle.filter_report.specs.Text.{entry_line, entry_lines}

-- what two facts of a result give
pub on_ok_both : {T E P Q S : Type 0} (r : Result T E) → (P → Q → S) → OnOk r P → OnOk r Q → OnOk r S
on_ok_both (Ok x) both p q = both p q
on_ok_both (Err e) both p q = tt

-- ---- lists of installs

codes-snoc : (is : List Install) (i : Install) → codes_of (is ++ i ∷ []) ≡ codes_of is ++ i.code ∷ []
codes-snoc is i = map-append (λ (j : Install). j.code) is (i ∷ [])

length-codes : (is : List Install) → length (codes_of is) ≡ length is
length-codes [] = refl
length-codes (i ∷ is) = ap (λ n. suc n) (length-codes is)

-- each install's own code is right for it
pub installs_fit : (is : List Install) → AllFit (codes_of is) (map plain is)
installs_fit [] = tt
installs_fit (i ∷ is) = (record { means = meaning i; size = i.short; room = i.fits; bytes = i.bytes }, installs_fit is)

-- ---- one more entry

module _ (c : Course) (core new : Standing) (installs : List Install) (lines : List (List ℕ)) (f : Filter) (a : HasListed c core installs lines) (is : filter_of new ≡ f) where
  -- the reply of an update
  pub listed_reply : (r : UpdateReply) → new.install ≡ core.install → HasListed (tells c f (reply r f.clock ∷ [])) new installs (lines ++ update_line r new.clock ∷ [])
  listed_reply r same =
      let e = reply r f.clock in
      let none : installs_of (c.told ++ e ∷ []) ≡ installs_of c.told = installs-append c.told (e ∷ []) ∙ append-nil (installs_of c.told) in
      record {
        are = a.are ∙ sym none;
        numbers = a.numbers;
        count = rw same a.count;
        at = is;
        telling = λ more steps.
            let programs = codes_of installs ++ more in
            ap (λ (w : List (List ℕ)). w ++ update_line r new.clock ∷ []) (a.telling more steps)
            ∙ ap (λ (g : Filter). entry_lines programs steps c.told ++ update_line r g.clock ∷ []) is
            ∙ sym (lines-one programs steps c.told e);
      }

  -- an install
  pub listed_install : new.install.number ≡ core.install.number + 1
      → HasListed (tells c f (install f.install ∷ [])) new (installs ++ new.install ∷ []) (lines ++ gen_line new.install.number new.install.at new.install.left new.install.code ∷ [])
  listed_install next =
      let i = new.install in
      let e = install (plain i) in
      let line : List ℕ → List ℕ = λ (p : List ℕ). gen_line i.number i.at i.left p in
      let all : installs_of (c.told ++ e ∷ []) ≡ installs_of c.told ++ plain i ∷ [] = installs-append c.told (e ∷ []) in
      let place : i.number ≡ length (codes_of installs) = omega (arith, next, a.count, length-codes installs) in
      subst (λ (g : Filter). HasListed (tells c g (install g.install ∷ [])) new (installs ++ i ∷ []) (lines ++ line i.code ∷ [])) is (record {
        are = map-append plain installs (i ∷ []) ∙ ap (λ (l : List Installed). l ++ plain i ∷ []) a.are ∙ sym all;
        numbers = rises_snoc 0 installs i a.numbers (omega (arith, next, a.count));
        count = omega (arith, next, a.count, length-append installs (i ∷ []));
        at = refl;
        telling = λ more steps.
            let programs = codes_of installs ++ i.code ∷ more in
            rw (codes-snoc installs i, append_assoc (codes_of installs) (i.code ∷ []) more) (
            ap (λ (w : List (List ℕ)). w ++ line i.code ∷ []) (a.telling (i.code ∷ more) steps)
            ∙ ap (λ (p : List ℕ). entry_lines programs steps c.told ++ line p ∷ [])
            (sym (ap (λ (n : ℕ). get_or programs n []) place ∙ get_or-append_seam (codes_of installs) i.code more []))
            ∙ sym (lines-one programs steps c.told e));
      })

-- ---- one event

module _ (c : Course) (core new : Standing) (event : Timed) (r : UpdateReply) (installs : List Install) (lines : List (List ℕ)) (a : HasListed c core installs lines)
    (replied : r ≡ (updated (filter_of core) event.update event.time).1) (is : filter_of new ≡ (updated (filter_of core) event.update event.time).0)
    (renews : Renews (update_installs r) core.install new.install) where
  abbrev after : Filter × UpdateReply
  after = updated (filter_of core) event.update event.time

  told_by : (more : List Install) (line : List ℕ) → HasListed (tells c after.0 (update_entries (after.0, r))) new more (lines ++ line ∷ []) → HasListed (after_event c event) new more (lines ++ line ∷ [])
  told_by more line h =
      subst (λ (f : Filter). let next = updated f event.update event.time in HasListed (tells c next.0 (update_entries next)) new more (lines ++ line ∷ [])) a.at
      (subst (λ (q : UpdateReply). HasListed (tells c after.0 (update_entries (after.0, q))) new more (lines ++ line ∷ [])) replied h)

  pub listed_by_install : r ≡ updates.Installed
      → HasListed (after_event c event) new (installs ++ new.install ∷ []) (lines ++ gen_line new.install.number new.install.at new.install.left new.install.code ∷ [])
  listed_by_install e =
      told_by (installs ++ new.install ∷ []) (gen_line new.install.number new.install.at new.install.left new.install.code)
      (subst (λ (q : UpdateReply). HasListed (tells c after.0 (update_entries (after.0, q))) new (installs ++ new.install ∷ [])
      (lines ++ gen_line new.install.number new.install.at new.install.left new.install.code ∷ [])) (sym e)
      (listed_install c core new installs lines after.0 a is (subst (λ (q : UpdateReply). Renews (update_installs q) core.install new.install) e renews)))

  other : (q : UpdateReply) → (q ≡ updates.Installed → ⊥) → Renews (update_installs q) core.install new.install
      → HasListed (tells c after.0 (update_entries (after.0, q))) new installs (lines ++ update_line q new.clock ∷ [])
  other updates.Installed not same = absurd (not refl)
  other updates.Same not same = listed_reply c core new installs lines after.0 a is updates.Same same
  other (updates.Refused e) not same = listed_reply c core new installs lines after.0 a is (updates.Refused e) same
  other (updates.NotInstalled need limit) not same = listed_reply c core new installs lines after.0 a is (updates.NotInstalled need limit) same

  pub listed_by_reply : (r ≡ updates.Installed → ⊥) → HasListed (after_event c event) new installs (lines ++ update_line r new.clock ∷ [])
  listed_by_reply not = told_by installs (update_line r new.clock) (other r not renews)

-- ---- the start, and the end

-- install 0, its line and nothing else
pub listed_first : (script : Script) (core : Standing) → IsFirstCore script.config script.start core
    → HasListed (begun script) core (core.install ∷ []) (gen_line core.install.number core.install.at core.install.left core.install.code ∷ [])
unfolding entry_lines install_of
listed_first script core is =
    let same : plain core.install ≡ (first script.config script.start).install = ap (λ (f : Filter). f.install) is.filter in
    let none : core.install.number ≡ 0 = ap (λ (f : Filter). f.install.number) is.filter in
    record {
      are = ap (λ (i : Installed). i ∷ []) same;
      numbers = (none, tt);
      count = rw none refl;
      at = is.filter;
      telling = λ more steps. ap (λ (i : Installed). gen_line i.number i.at i.left core.install.code ∷ []) same;
    }

-- a course that took all events
pub listed_told : (script : Script) (core : Standing) (installs : List Install) (lines : List (List ℕ)) → HasListed (fold after_event (begun script) script.events) core installs lines → HasTold script installs lines
listed_told script core installs lines a = record {
  are = a.are;
  fit = subst (λ (is : List Installed). AllFit (codes_of installs) is) a.are (installs_fit installs);
  numbers = a.numbers;
  some = omega (arith, a.count);
  telling = subst (λ (programs : List (List ℕ)). lines ≡ entry_lines programs [] (fold after_event (begun script) script.events).told) (append-nil (codes_of installs)) (a.telling [] []);
}
