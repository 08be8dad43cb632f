-- A code means a basis in at most one way, so that a struct may keep the fact.
use Rattle.std.proofs.Common.{◌≡◌, ℕ, Bool, true, false, List, [], refl}
use base.Stored.{Coded-set}
use Rattle.std.specs.Coded.{Coded, code_by, coded_bool, coded_list, coded_ℕ}
use Rattle.apf_coding.specs.declared.machine.Verdict.{Verdict}
use Rattle.apf_coding.specs.declared.machine.Verdict.TheVariants.{Pass, Drop}
use Rattle.apf_coding.specs.declared.machine.FaultKind.TheVariants.{Frame}
use Rattle.apf_coding.specs.declared.machine.Why.{Why}
use Rattle.apf_coding.specs.declared.machine.Why.TheVariants as whys
use Rattle.policy_state.specs.declared.basis.Basis.{Basis}
use Rattle.policy_state.specs.Whole.{Fate, Short, Missing, Says}
use Rattle.apf_generate.specs.Means.{EndsBy, Means}

abbrev is_drop : Verdict → Bool
is_drop Pass = false
is_drop Drop = true

abbrev verdict_of_bool : Bool → Verdict
verdict_of_bool false = Pass
verdict_of_bool true = Drop

back : (v : Verdict) → verdict_of_bool (is_drop v) ≡ v
back Pass = refl
back Drop = refl

abbrev coded_verdict : Coded Verdict
coded_verdict = code_by Bool coded_bool is_drop verdict_of_bool back

EndsBy-prop : (fate : Fate) (why : Why) → IsProp (EndsBy fate why)
EndsBy-prop Short whys.Short = hlevel []
EndsBy-prop Missing (whys.Fault Frame place) = hlevel []
EndsBy-prop (Says verdict c) whys.Reached = hlevel []
EndsBy-prop fate why = hlevel []

pub Means-prop : (code : List ℕ) (basis : Basis) → IsProp (Means code basis)
Means-prop code basis = hlevel (EndsBy-prop, Coded-set coded_verdict, Coded-set (coded_list coded_ℕ))
