-- A function that computes finds the value that is spelled, and each value that is spelled is found.
use Rattle.std.proofs.Common.{◌≡◌, Option, Some, None, refl, sym, ◌∙◌}
use Rattle.std.specs.Prelude.{IfSome, IsNone, ◌↔◌}
use Rattle.apf_coding.specs.Reading.{◌>>=◌}
pub use Rattle.plain_text.proofs.Numerals.{if_some}

pub record Exact {A : Type 0} (read : Option A) (Spells : A → Type 0) : Type 0 where
  pub found : (value : A) → read ≡ Some value → Spells value
  pub only : (value : A) → Spells value → read ≡ Some value

pub exact-found : {A : Type 0} (Spells : A → Type 0) (r read : Option A) → Exact read Spells → r ≡ read → IfSome r Spells
exact-found Spells (Some x) read e same = e.found x (sym same)
exact-found Spells None read e same = tt

pub exact-only : {A : Type 0} (Spells : A → Type 0) (r read : Option A) → Exact read Spells → r ≡ read → (value : A) → Spells value → r ≡ Some value
exact-only Spells r read e same value spelled = same ∙ e.only value spelled

pub exact-none : {A : Type 0} (Spells : A → Type 0) (r read : Option A) → Exact read Spells → r ≡ read → IsNone r ↔ ((value : A) → ¬ Spells value)
exact-none {A} Spells (Some x) read e same = (λ none. absurd cc, λ refused. absurd (refused x (e.found x (sym same))))
exact-none {A} Spells None read e same = (λ none value spelled. let some = e.only value spelled in absurd cc, λ refused. refl)

pub exact-one : {A : Type 0} (Spells : A → Type 0) (read : Option A) → Exact read Spells → (x y : A) → Spells x → Spells y → x ≡ y
exact-one Spells read e x y p q = let first = e.only x p in let second = e.only y q in cc

-- ---- steps

pub bind_some : {A B : Type 0} (o : Option A) (f : A → Option B) (y : B) → (o >>= f) ≡ Some y → (x : A) × (o ≡ Some x) × (f x ≡ Some y)
bind_some (Some x) f y e = (x, refl, e)
bind_some None f y e = absurd cc

pub some_inj : {A : Type 0} (x y : A) → Some x ≡ Some y → x ≡ y
some_inj x y e = cc

-- ---- from one spelling to another

pub exact-none_spelled : {A : Type 0} (Spells : A → Type 0) (read : Option A) → Exact read Spells → read ≡ None → (value : A) → Spells value → ⊥
exact-none_spelled Spells read e none value spelled = let some = e.only value spelled in absurd cc

pub exact-refused : {A : Type 0} (Spells : A → Type 0) (read r : Option A) → Exact read Spells → read ≡ r → ((value : A) → Spells value → ⊥) → read ≡ None
exact-refused Spells read (Some x) e same refused = absurd (refused x (e.found x same))
exact-refused Spells read None e same refused = same

pub exact-same : {A : Type 0} (S T : A → Type 0) (read : Option A) → Exact read S → ((x : A) → S x → T x) → ((x : A) → T x → S x) → Exact read T
exact-same S T read e there back = record { found = λ x h. there x (e.found x h); only = λ x t. e.only x (back x t) }
