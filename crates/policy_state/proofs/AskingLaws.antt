-- Laws of the words in which the policy's questions are written.
use Rattle.std.proofs.Common.{◌≡◌, Bool, true, false, cond, not, Option, Some, None, refl, sym, ap, ◌∙◌}
use Rattle.apf_coding.specs.declared.machine.Verdict.{Verdict}
use Rattle.data_counters.specs.declared.counter.Counter.{Counter}
use Rattle.policy_state.specs.declared.ruling.Ruling.{Ruling}
use Rattle.policy_state.specs.declared.ruling.Ruling.TheVariants.{Missing, Says, Silent}
use Rattle.policy_state.specs.Asking.{reading, when, otherwise}

pub otherwise-assoc : (a b c : Ruling) → otherwise (otherwise a b) c ≡ otherwise a (otherwise b c)
otherwise-assoc Silent b c = refl
otherwise-assoc Missing b c = refl
otherwise-assoc (Says verdict counter) b c = refl

pub otherwise-silent : (a : Ruling) → otherwise a Silent ≡ a
otherwise-silent Silent = refl
otherwise-silent Missing = refl
otherwise-silent (Says verdict counter) = refl

-- two questions that read the same field read it once
pub otherwise-reading : {A : Type 0} (o : Option A) (j k : A → Ruling) → otherwise (reading o j) (reading o k) ≡ reading o (λ v. otherwise (j v) (k v))
otherwise-reading None j k = refl
otherwise-reading (Some v) j k = refl

-- a test that answers, and else goes on
pub otherwise-when : (b : Bool) (verdict : Verdict) (counter : Counter) (later : Ruling) → otherwise (when b (Says verdict counter)) later ≡ cond b (Says verdict counter) later
otherwise-when true verdict counter later = refl
otherwise-when false verdict counter later = refl

-- a field that is tested, with an answer, and else goes on
pub reading-cond : {A : Type 0} (o : Option A) (test : A → Bool) (verdict : Verdict) (counter : Counter) (later : Ruling)
    → reading o (λ v. cond (test v) (Says verdict counter) later) ≡ otherwise (reading o (λ v. when (test v) (Says verdict counter))) later
reading-cond None test verdict counter later = refl
reading-cond (Some v) test verdict counter later = sym (otherwise-when (test v) verdict counter later)

-- what is asked only where something is so
pub when-cond : (b : Bool) (a : Ruling) → cond b a Silent ≡ when b a
when-cond true a = refl
when-cond false a = refl

pub when-not : (b : Bool) (a : Ruling) → cond (not b) Silent a ≡ when b a
when-not true a = refl
when-not false a = refl

pub reading-when : {A : Type 0} (o : Option A) (test : A → Bool) (a : Ruling) → reading o (λ v. cond (not (test v)) Silent a) ≡ reading o (λ v. when (test v) a)
reading-when None test a = refl
reading-when (Some v) test a = when-not (test v) a

-- the same, where the later question is joined to none
pub reading-over : {A : Type 0} (o : Option A) (test : A → Bool) (a : Ruling) → reading o (λ v. cond (not (test v)) Silent (otherwise a Silent)) ≡ reading o (λ v. when (test v) a)
reading-over None test a = refl
reading-over (Some v) test a = when-not (test v) (otherwise a Silent) ∙ ap (λ (r : Ruling). when (test v) r) (otherwise-silent a)
