-- The forms of items and of lists of them.
use Rattle.std.proofs.Common.{◌≡◌, ℕ, zero, suc, ◌-◌, ◌*◌, ◌<◌, ◌≤◌, ◌^◌, Bool, true, false, List, [], ◌∷◌, ◌++◌, length, refl, sym, ap, ◌∙◌, arith, lit<, inl, inr}
use Rattle.std.specs.Prelude.{◌||◌, ◌&&◌, All, nat_lt, slice_index}
use Rattle.std.specs.List.{list_all}
use Rattle.std.proofs.lemmas.Bool.{eq-eqb, false≢true, ltb-true}
use Rattle.std.proofs.lemmas.List.Elements.{All-nil, All-cons, All-head, All-tail}
use Rattle.apf_coding.specs.declared.instruction.Op.{Op}
use Rattle.apf_coding.specs.declared.instruction.Op.TheVariants.{Jeq, Jne, Jgt, Jlt, Jset, Li}
use Rattle.apf_coding.specs.declared.machine.Verdict.{Verdict}
use Rattle.apf_coding.specs.Instruction.{is_conditional}
use Rattle.apf_coding.specs.Spelling.{IsWidth}
use Rattle.apf_coding.specs.Jumps.{is_jump}
use Rattle.apf_asm.specs.declared.item.Item.{Item}
use Rattle.apf_asm.specs.declared.item.Item.TheVariants as items
use Rattle.apf_asm.specs.declared.item.Target.{Target}
use Rattle.apf_asm.specs.declared.item.Target.TheVariants as targets
use Rattle.apf_asm.specs.Items.{IsItemForm, IsLabelled, bytes_limit}
use Rattle.apf_asm.specs.Refusals.{stands}
use Rattle.apf_asm.proofs.LabelPlaces.{stands-append}
use Rattle.apf_asm.specs.Building.{to_end, fixed, count, jump_if, jump_if_r1, jump, jump_unless}
use Rattle.apf_asm.specs.Fragment.{Lands, LandsOf, AllLand, labels}
use Rattle.apf_coding.proofs.Language.{HasWord}
use Rattle.apf_asm.proofs.Rules.{label_of-below}

-- ---- labels

or_true : (b : Bool) → b || true ≡ true
or_true true = refl
or_true false = refl

pub stands-here : (l : ℕ) (xs ys : List Item) → stands l (xs ++ (items.Label l ∷ ys)) ≡ true
unfolding stands
stands-here l xs ys = stands-append l xs (items.Label l ∷ ys) ∙ ap (λ (b : Bool). stands l xs || (b || stands l ys)) (eq-eqb l l refl) ∙ or_true (stands l xs)

pub stands-more : (l : ℕ) (xs ys : List Item) → stands l xs ≡ true → stands l (xs ++ ys) ≡ true
stands-more l xs ys e = stands-append l xs ys ∙ ap (λ (b : Bool). b || stands l ys) e

pub stands-later : (l : ℕ) (xs ys : List Item) → stands l ys ≡ true → stands l (xs ++ ys) ≡ true
stands-later l xs ys e = stands-append l xs ys ∙ ap (λ (b : Bool). stands l xs || b) e ∙ or_true (stands l xs)

pub labels-append : (xs ys : List Item) → labels (xs ++ ys) ≡ labels xs ++ labels ys
unfolding labels
labels-append [] ys = refl
labels-append (items.Label l ∷ xs) ys = ap (λ (ls : List ℕ). l ∷ ls) (labels-append xs ys)
labels-append (items.Fixed f ∷ xs) ys = labels-append xs ys
labels-append (items.Jump j ∷ xs) ys = labels-append xs ys
labels-append (items.Byte b ∷ xs) ys = labels-append xs ys

-- ---- sound items: each is well formed and in label form, and each jump lands

abbrev pub AllSound : List Item → Type 0
AllSound [] = Unit {0}
AllSound (item ∷ rest) = IsItemForm item × IsLabelled item × LandsOf rest item × AllSound rest

pub record IsSound (xs : List Item) : Type 0 where
  pub each : AllSound xs

pub forms_of : (xs : List Item) → AllSound xs → All IsItemForm xs
forms_of [] s = All-nil IsItemForm
forms_of (x ∷ xs) s = All-cons IsItemForm x xs s.0 (forms_of xs s.3)

pub label_form_of : (xs : List Item) → AllSound xs → All IsLabelled xs
label_form_of [] s = All-nil IsLabelled
label_form_of (x ∷ xs) s = All-cons IsLabelled x xs s.1 (label_form_of xs s.3)

pub land_of : (xs : List Item) → AllSound xs → AllLand xs
land_of [] s = tt
land_of (x ∷ xs) s = (s.2, land_of xs s.3)

all_sound : (xs : List Item) → All IsItemForm xs → All IsLabelled xs → AllLand xs → AllSound xs
all_sound [] forms labelled land = tt
all_sound (x ∷ xs) forms labelled land = (
  All-head IsItemForm x xs forms,
  All-head IsLabelled x xs labelled,
  land.0,
  all_sound xs (All-tail IsItemForm x xs forms) (All-tail IsLabelled x xs labelled) land.1,
)

pub sound-of : (xs : List Item) → All IsItemForm xs → All IsLabelled xs → AllLand xs → IsSound xs
sound-of xs forms labelled land = record { each = all_sound xs forms labelled land }

-- ---- one behind the other

lands-more : (xs ys : List Item) (to : Target) → Lands xs to → Lands (xs ++ ys) to
lands-more xs ys (targets.Label l) h = elim h [ inl lt ↦ inl lt | inr e ↦ inr (stands-more l xs ys e) ]
lands-more xs ys targets.Pass h = h
lands-more xs ys targets.Drop h = h

lands_of-more : (xs ys : List Item) (item : Item) → LandsOf xs item → LandsOf (xs ++ ys) item
lands_of-more xs ys (items.Jump j) h = lands-more xs ys j.to h
lands_of-more xs ys (items.Fixed f) h = tt
lands_of-more xs ys (items.Label l) h = tt
lands_of-more xs ys (items.Byte b) h = tt

all_sound-append : (xs ys : List Item) → AllSound xs → AllSound ys → AllSound (xs ++ ys)
all_sound-append [] ys s t = t
all_sound-append (x ∷ xs) ys s t = (s.0, s.1, lands_of-more xs ys x s.2, all_sound-append xs ys s.3 t)

pub sound-append : (xs ys : List Item) → IsSound xs → IsSound ys → IsSound (xs ++ ys)
sound-append xs ys s t = record { each = all_sound-append xs ys s.each t.each }

pub sound-nil : IsSound []
sound-nil = record { each = tt }

-- ---- one item in front of others

no_bytes : (k : ℕ) → slice_index [] k < 256
no_bytes k = lit< tt

-- bytes that are written out
pub bytes_fit : (bytes : List ℕ) → list_all (λ b. nat_lt b 256) bytes ≡ true → (k : ℕ) → slice_index bytes k < 256
bytes_fit [] e k = no_bytes k
bytes_fit (b ∷ bytes) e zero = first (nat_lt b 256) (list_all (λ c. nat_lt c 256) bytes) refl e
  where
    first : (here there : Bool) → nat_lt b 256 ≡ here → (here && there) ≡ true → b < 256
    first true there is both = ltb-true b 256 is
    first false there is both = absurd (false≢true both)
bytes_fit (b ∷ bytes) e (suc k) = bytes_fit bytes (later (nat_lt b 256) (list_all (λ c. nat_lt c 256) bytes) e) k
  where
    later : (here there : Bool) → (here && there) ≡ true → there ≡ true
    later true there both = both
    later false there both = absurd (false≢true both)

pub form-fixed : (op : Op) (reg width imm : ℕ) → reg < 2 → IsWidth width → imm < 256 ^ width → IsItemForm (fixed op reg width imm)
form-fixed op reg width imm lt is_width fits = record {
  well_formed = record {
    reg = lt;
    width = is_width;
    imm = fits;
    second = omega (arith, fits);
    no_second = λ e. refl;
    bytes = omega (arith, fits);
    no_bytes = λ e. refl;
  };
  each_a_byte = no_bytes;
  short = omega arith;
}

pub sound-fixed : (op : Op) (reg width imm : ℕ) (xs : List Item) → is_jump op ≡ false → reg < 2 → IsWidth width → imm < 256 ^ width → IsSound xs → IsSound (fixed op reg width imm ∷ xs)
sound-fixed op reg width imm xs e lt is_width fits s = record { each = (form-fixed op reg width imm lt is_width fits, e, tt, s.each) }

-- with an immediate of one byte
pub sound-byte : (op : Op) (reg imm : ℕ) (xs : List Item) → is_jump op ≡ false → reg < 2 → imm < 256 → IsSound xs → IsSound (fixed op reg 1 imm ∷ xs)
sound-byte op reg imm xs e lt fits s = sound-fixed op reg 1 imm xs e lt (inr (inl refl)) fits s

pub sound-count : (number : ℕ) (xs : List Item) → HasWord number → IsSound xs → IsSound (count number ∷ xs)
sound-count number xs word s =
    let least : 0 < number = word.least in
    let most : number ≤ 32 = word.most in
    sound-byte Li 1 (256 - 4 * number) xs refl (lit< tt) (omega arith) s

form-if : (op : Op) (number : ℕ) (to : Target) → is_conditional op ≡ true → number < 2 ^ 32 → IsItemForm (jump_if op number to)
form-if Jeq number to e lt = record { op = refl; reg = lit< tt; no_reg = λ e. refl; second = lt; no_second = λ e. absurd (false≢true (sym e)); no_bytes = λ e. refl; some_bytes = λ e. absurd (false≢true e); each_a_byte = no_bytes; short = omega arith }
form-if Jne number to e lt = record { op = refl; reg = lit< tt; no_reg = λ e. refl; second = lt; no_second = λ e. absurd (false≢true (sym e)); no_bytes = λ e. refl; some_bytes = λ e. absurd (false≢true e); each_a_byte = no_bytes; short = omega arith }
form-if Jgt number to e lt = record { op = refl; reg = lit< tt; no_reg = λ e. refl; second = lt; no_second = λ e. absurd (false≢true (sym e)); no_bytes = λ e. refl; some_bytes = λ e. absurd (false≢true e); each_a_byte = no_bytes; short = omega arith }
form-if Jlt number to e lt = record { op = refl; reg = lit< tt; no_reg = λ e. refl; second = lt; no_second = λ e. absurd (false≢true (sym e)); no_bytes = λ e. refl; some_bytes = λ e. absurd (false≢true e); each_a_byte = no_bytes; short = omega arith }
form-if Jset number to e lt = record { op = refl; reg = lit< tt; no_reg = λ e. refl; second = lt; no_second = λ e. absurd (false≢true (sym e)); no_bytes = λ e. refl; some_bytes = λ e. absurd (false≢true e); each_a_byte = no_bytes; short = omega arith }
form-if _ number to e lt = absurd (false≢true e)

form-if_r1 : (op : Op) (to : Target) → is_conditional op ≡ true → IsItemForm (jump_if_r1 op to)
form-if_r1 Jeq to e = record { op = refl; reg = lit< tt; no_reg = λ e. absurd (false≢true (sym e)); second = lit< tt; no_second = λ e. refl; no_bytes = λ e. refl; some_bytes = λ e. absurd (false≢true e); each_a_byte = no_bytes; short = omega arith }
form-if_r1 Jne to e = record { op = refl; reg = lit< tt; no_reg = λ e. absurd (false≢true (sym e)); second = lit< tt; no_second = λ e. refl; no_bytes = λ e. refl; some_bytes = λ e. absurd (false≢true e); each_a_byte = no_bytes; short = omega arith }
form-if_r1 Jgt to e = record { op = refl; reg = lit< tt; no_reg = λ e. absurd (false≢true (sym e)); second = lit< tt; no_second = λ e. refl; no_bytes = λ e. refl; some_bytes = λ e. absurd (false≢true e); each_a_byte = no_bytes; short = omega arith }
form-if_r1 Jlt to e = record { op = refl; reg = lit< tt; no_reg = λ e. absurd (false≢true (sym e)); second = lit< tt; no_second = λ e. refl; no_bytes = λ e. refl; some_bytes = λ e. absurd (false≢true e); each_a_byte = no_bytes; short = omega arith }
form-if_r1 Jset to e = record { op = refl; reg = lit< tt; no_reg = λ e. absurd (false≢true (sym e)); second = lit< tt; no_second = λ e. refl; no_bytes = λ e. refl; some_bytes = λ e. absurd (false≢true e); each_a_byte = no_bytes; short = omega arith }
form-if_r1 _ to e = absurd (false≢true e)

pub form-jump : (to : Target) → IsItemForm (jump to)
form-jump to = record { op = refl; reg = lit< tt; no_reg = λ e. refl; second = lit< tt; no_second = λ e. refl; no_bytes = λ e. refl; some_bytes = λ e. absurd (false≢true e); each_a_byte = no_bytes; short = omega arith }

form-unless : (bytes : List ℕ) (to : Target) → 0 < length bytes → length bytes ≤ bytes_limit → ((k : ℕ) → slice_index bytes k < 256) → IsItemForm (jump_unless bytes to)
form-unless bytes to some long each = record { op = refl; reg = lit< tt; no_reg = λ e. refl; second = lit< tt; no_second = λ e. refl; no_bytes = λ e. absurd (false≢true (sym e)); some_bytes = λ e. some; each_a_byte = each; short = long }

-- jumps to an end, and to a label further on

pub sound-if_end : (op : Op) (number : ℕ) (verdict : Verdict) (xs : List Item) → is_conditional op ≡ true → number < 2 ^ 32 → IsSound xs → IsSound (jump_if op number (to_end verdict) ∷ xs)
sound-if_end op number verdict xs e lt s = record { each = (form-if op number (to_end verdict) e lt, tt, inl (label_of-below verdict), s.each) }

pub sound-if_label : (op : Op) (number l : ℕ) (xs : List Item) → is_conditional op ≡ true → number < 2 ^ 32 → stands l xs ≡ true → IsSound xs → IsSound (jump_if op number (targets.Label l) ∷ xs)
sound-if_label op number l xs e lt there s = record { each = (form-if op number (targets.Label l) e lt, tt, inr there, s.each) }

pub sound-if_r1_label : (op : Op) (l : ℕ) (xs : List Item) → is_conditional op ≡ true → stands l xs ≡ true → IsSound xs → IsSound (jump_if_r1 op (targets.Label l) ∷ xs)
sound-if_r1_label op l xs e there s = record { each = (form-if_r1 op (targets.Label l) e, tt, inr there, s.each) }

pub sound-jump_end : (verdict : Verdict) (xs : List Item) → IsSound xs → IsSound (jump (to_end verdict) ∷ xs)
sound-jump_end verdict xs s = record { each = (form-jump (to_end verdict), tt, inl (label_of-below verdict), s.each) }

pub sound-unless_end : (bytes : List ℕ) (verdict : Verdict) (xs : List Item) → 0 < length bytes → length bytes ≤ bytes_limit → ((k : ℕ) → slice_index bytes k < 256) → IsSound xs → IsSound (jump_unless bytes (to_end verdict) ∷ xs)
sound-unless_end bytes verdict xs some long each s = record { each = (form-unless bytes (to_end verdict) some long each, tt, inl (label_of-below verdict), s.each) }

pub sound-unless_label : (bytes : List ℕ) (l : ℕ) (xs : List Item) → 0 < length bytes → length bytes ≤ bytes_limit → ((k : ℕ) → slice_index bytes k < 256) → stands l xs ≡ true → IsSound xs → IsSound (jump_unless bytes (targets.Label l) ∷ xs)
sound-unless_label bytes l xs some long each there s = record { each = (form-unless bytes (targets.Label l) some long each, tt, inr there, s.each) }

pub sound-label : (l : ℕ) (xs : List Item) → IsSound xs → IsSound (items.Label l ∷ xs)
sound-label l xs s = record { each = (tt, tt, tt, s.each) }
