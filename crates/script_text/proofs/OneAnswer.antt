-- A text has one answer, which is that of the reader.
use Rattle.std.proofs.Common.{◌≡◌, ℕ, ◌≤◌, Bool, List, length, Result, Ok, Err, refl, sym, ap, subst, ◌∙◌, inl, inr}
use Rattle.std.specs.Prelude.{◌⊎◌, IfOk}
use Rattle.std.proofs.Math.Bridge.{le_prop}
use Rattle.policy_state.specs.declared.config.Config.{Config}
use Rattle.policy_state.specs.declared.basis.Script.{Script}
use Rattle.policy_state.specs.declared.basis.Timed.{Timed}
use Rattle.script_text.specs.declared.script_error.ScriptError.{ScriptError}
use Rattle.script_text.specs.declared.script_error.ScriptError.TheVariants.{Bad, OutOfMemory}
use Rattle.script_text.specs.declared.script_error.ScriptKind.{ScriptKind}
use Rattle.script_text.specs.ScriptLines.{Contents, contents_of}
use Rattle.script_text.specs.Scripts.{Says, IsScriptText}
use Rattle.script_text.specs.ScriptFaults.{ScriptRefuses}
use Rattle.script_text.specs.ScriptReading.{script_answer, ReadsAs}
use Rattle.script_text.proofs.Grammar.{ok_inj, err_inj}
use Rattle.script_text.proofs.Said.{says_found, says_again}
use Rattle.script_text.proofs.FaultsFound.{bad_parts, answer_stands, refused_found}
use Rattle.script_text.proofs.FaultsAgain.{refused_again}
use Rattle.policy_state.specs.Limits.{capacity_least, capacity_most, denied_most}

-- ---- one answer

either_cases : (text : List ℕ) (answer : Result Contents ScriptError) → script_answer text ≡ answer → ((c : Contents) × Says text c) ⊎ ((n : ℕ) × (k : ScriptKind) × ScriptRefuses text n k)
either_cases text (Ok c) e = inl (c, says_found text c e)
either_cases text (Err (Bad n k)) e = inr (n, k, refused_found text n k e)
either_cases text (Err OutOfMemory) e = absurd (answer_stands text OutOfMemory e)

pub either : (text : List ℕ) → ((c : Contents) × Says text c) ⊎ ((n : ℕ) × (k : ScriptKind) × ScriptRefuses text n k)
either text = either_cases text (script_answer text) refl

pub not_both : (text : List ℕ) (c : Contents) (n : ℕ) (k : ScriptKind) → Says text c → ScriptRefuses text n k → ⊥
not_both text c n k s r = let ok = says_again text c s in let err = refused_again text n k r in cc

pub one_script : (text : List ℕ) (a b : Contents) → Says text a → Says text b → a ≡ b
one_script text a b s t = ok_inj {A = Contents} {E = ScriptError} a b (sym (says_again text a s) ∙ says_again text b t)

pub one_fault : (text : List ℕ) (n m : ℕ) (k j : ScriptKind) → ScriptRefuses text n k → ScriptRefuses text m j → (n ≡ m) × (k ≡ j)
one_fault text n m k j r q = bad_parts n m k j (err_inj {A = Contents} {E = ScriptError} (Bad n k) (Bad m j) (sym (refused_again text n k r) ∙ refused_again text m j q))

-- ---- what the reader answers

-- a configuration by its fields and its bounds
config_of : (mac : List ℕ) (drop_802_3 : Bool) (capacity : ℕ) → capacity_least ≤ capacity → capacity ≤ capacity_most → (deny : List ℕ) → length deny ≤ denied_most → Config
config_of mac drop_802_3 capacity least most deny few = record { mac = mac; capacity = capacity; drop_802_3 = drop_802_3; deny = deny; least = least; most = most; few = few }

-- bounds hold in one way
same_bounds : (mac : List ℕ) (dropped : Bool) (capacity : ℕ) (l m : capacity_least ≤ capacity) (n o : capacity ≤ capacity_most) (deny : List ℕ) (f g : length deny ≤ denied_most) → config_of mac dropped capacity l n deny f ≡ config_of mac dropped capacity m o deny g
same_bounds mac dropped capacity l m n o deny f g =
    ap (λ (x : capacity_least ≤ capacity). config_of mac dropped capacity x n deny f) (le_prop l m)
    ∙ ap (λ (x : capacity ≤ capacity_most). config_of mac dropped capacity m x deny f) (le_prop n o)
    ∙ ap (λ (x : length deny ≤ denied_most). config_of mac dropped capacity m o deny x) (le_prop f g)

same_deny : (mac : List ℕ) (dropped : Bool) (capacity : ℕ) (l m : capacity_least ≤ capacity) (n o : capacity ≤ capacity_most) (deny other : List ℕ) (f : length deny ≤ denied_most) → deny ≡ other → (g : length other ≤ denied_most) → config_of mac dropped capacity l n deny f ≡ config_of mac dropped capacity m o other g
same_deny mac dropped capacity l m n o deny other f e =
    subst (λ (x : List ℕ). (g : length x ≤ 32) → config_of mac dropped capacity l n deny f ≡ config_of mac dropped capacity m o x g) e
    (λ g. same_bounds mac dropped capacity l m n o deny f g)

same_capacity : (mac : List ℕ) (dropped : Bool) (a b : ℕ) (l : capacity_least ≤ a) (n : a ≤ capacity_most) (deny other : List ℕ) (f : length deny ≤ denied_most) (g : length other ≤ denied_most) → deny ≡ other → a ≡ b → (m : capacity_least ≤ b) (o : b ≤ capacity_most) → config_of mac dropped a l n deny f ≡ config_of mac dropped b m o other g
same_capacity mac dropped a b l n deny other f g d e =
    subst (λ (x : ℕ). (m : capacity_least ≤ x) (o : x ≤ capacity_most) → config_of mac dropped a l n deny f ≡ config_of mac dropped x m o other g) e
    (λ m o. same_deny mac dropped a l m n o deny other f d g)

same_config : (a b : Config) → a.mac ≡ b.mac → a.capacity ≡ b.capacity → a.drop_802_3 ≡ b.drop_802_3 → a.deny ≡ b.deny → a ≡ b
unfolding config_of
same_config a b m c d e =
    ap (λ (x : List ℕ). config_of x a.drop_802_3 a.capacity a.least a.most a.deny a.few) m
    ∙ ap (λ (x : Bool). config_of b.mac x a.capacity a.least a.most a.deny a.few) d
    ∙ same_capacity b.mac b.drop_802_3 a.capacity b.capacity a.least a.most a.deny b.deny a.few b.few e c b.least b.most

script_of : Config → ℕ → List Timed → Script
script_of config start events = record { config = config; start = start; events = events }

same_script : (a b : Script) → contents_of a ≡ contents_of b → a ≡ b
unfolding script_of
same_script a b e =
    let config = same_config a.config b.config (ap (λ (c : Contents). c.mac) e) (ap (λ (c : Contents). c.capacity) e) (ap (λ (c : Contents). c.drop_802_3) e) (ap (λ (c : Contents). c.deny) e) in
    ap (λ (x : Config). script_of x a.start a.events) config
    ∙ ap (λ (x : ℕ). script_of b.config x a.events) (ap (λ (c : Contents). c.start) e)
    ∙ ap (λ (x : List Timed). script_of b.config b.start x) (ap (λ (c : Contents). c.events) e)

pub told_found : (text : List ℕ) (r : Result Script ScriptError) → ReadsAs contents_of r (script_answer text) → IfOk r (λ script. IsScriptText text script)
told_found text (Ok script) t = says_found text (contents_of script) t
told_found text (Err e) t = tt

pub told_only : (text : List ℕ) (r : Result Script ScriptError) → ReadsAs contents_of r (script_answer text) → (script : Script) → IsScriptText text script → (r ≡ Ok script) ⊎ (r ≡ Err OutOfMemory)
told_only text (Ok other) t script s = inl (ap Ok (same_script other script (ok_inj {A = Contents} {E = ScriptError} (contents_of other) (contents_of script) (sym t ∙ says_again text (contents_of script) s))))
told_only text (Err (Bad n k)) t script s = absurd (not_both text (contents_of script) n k s (refused_found text n k t))
told_only text (Err OutOfMemory) t script s = inr refl

pub told_named : (text : List ℕ) (r : Result Script ScriptError) → ReadsAs contents_of r (script_answer text) → (n : ℕ) (k : ScriptKind) → r ≡ Err (Bad n k) → ScriptRefuses text n k
told_named text (Ok script) t n k e = absurd cc
told_named text (Err (Bad m j)) t n k e =
    let same = bad_parts m n j k (err_inj {A = Script} {E = ScriptError} (Bad m j) (Bad n k) e) in
    subst (λ (p : ℕ × ScriptKind). ScriptRefuses text p.0 p.1) (pair_path m n j k same.0 same.1) (refused_found text m j t)
  where
    pair_path : (m n : ℕ) (j k : ScriptKind) → m ≡ n → j ≡ k → ◌≡◌ {A = ℕ × ScriptKind} (m, j) (n, k)
    pair_path m n j k p q = rw (p, q) refl
told_named text (Err OutOfMemory) t n k e = absurd (let same = err_inj {A = Script} {E = ScriptError} OutOfMemory (Bad n k) e in cc)

pub told_refused : (text : List ℕ) (r : Result Script ScriptError) → ReadsAs contents_of r (script_answer text) → (n : ℕ) (k : ScriptKind) → ScriptRefuses text n k → (r ≡ Err (Bad n k)) ⊎ (r ≡ Err OutOfMemory)
told_refused text (Ok script) t n k q = absurd (not_both text (contents_of script) n k (says_found text (contents_of script) t) q)
told_refused text (Err (Bad m j)) t n k q = inl (ap Err (err_inj {A = Contents} {E = ScriptError} (Bad m j) (Bad n k) (sym t ∙ refused_again text n k q)))
told_refused text (Err OutOfMemory) t n k q = inr refl
