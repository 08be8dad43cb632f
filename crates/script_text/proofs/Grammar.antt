-- The grammar, and the function that computes.
use Rattle.std.proofs.Common.{◌≡◌, ℕ, zero, suc, ◌<◌, ◌≤◌, Bool, true, false, ltb, List, [], ◌∷◌, ◌++◌, length, get_or, Option, Some, None, Result, Ok, Err, refl, sym, ap, subst, ◌∙◌, arith, inl, inr}
use Rattle.std.specs.Prelude.{map, ◌⊎◌}
use Rattle.std.specs.List.{AllByRecursion, AllPairs}
use Rattle.std.proofs.lemmas.Bool.{ltb-true, ltb-false, le-ltb, lt-ltb}
use Rattle.std.proofs.lemmas.List.Elements.{All-from_recursion, recursion_from_All}
use Rattle.std.proofs.lemmas.List.Kept.{AllPairs-cons}
use Rattle.policy_state.specs.declared.basis.Timed.{Timed}
use Rattle.script_text.specs.declared.script_error.ScriptError.{ScriptError}
use Rattle.script_text.specs.declared.script_error.ScriptError.TheVariants.{Bad}
use Rattle.script_text.specs.declared.script_error.ScriptKind.TheVariants.{Form, Order, End}
use Rattle.policy_state.specs.Ranges.{IsMac}
use Rattle.script_text.specs.ScriptLines.{Contents, version_line, mac_line, capacity_line, start_line, drop_line, deny_line, event_line, first_lines, IsCapacity, IsDeny, IsWordNumber, IsEvent}
use Rattle.script_text.specs.Scripts.{IsInOrder, IsSoundScript}
use Rattle.script_text.specs.ScriptFaults.{IsLate}
use Rattle.script_text.specs.ScriptReading.{◌>>>◌, or_form, first, first_six, in_time, event_of, event_answer, with_events, events_from, version_read, mac_read, capacity_read, start_read, drop_read, deny_read}
use Rattle.script_text.proofs.Exactness.{exact-none_spelled, exact-refused}
use Rattle.script_text.proofs.LineWords.{version_exact, mac_line_exact, capacity_line_exact, start_line_exact, drop_line_exact, deny_line_exact}
use Rattle.script_text.proofs.EventWords.{event_exact}

abbrev pub Kept : Type 0
Kept = List (ℕ × List ℕ)

-- the lines without their numbers
abbrev pub texts : Kept → List (List ℕ)
texts lines = map (λ l. l.1) lines

-- ---- the order of events

-- each event is not before the one that precedes it
abbrev pub Chain : ℕ → List Timed → Type 0
Chain latest [] = Unit {0}
Chain latest (e ∷ es) = (latest ≤ e.time) × Chain e.time es

abbrev pub last_time : ℕ → List Timed → ℕ
last_time latest [] = latest
last_time latest (e ∷ es) = last_time e.time es

chain_from : (low latest : ℕ) (es : List Timed) → low ≤ latest → Chain latest es → AllByRecursion (λ (e : Timed). low ≤ e.time) es
chain_from low latest [] le c = tt
chain_from low latest (e ∷ es) le c = let next = c.0 in (omega arith, chain_from low e.time es (omega arith) c.1)

abbrev Rises : Timed → Timed → Type 0
Rises earlier later = earlier.time ≤ later.time

chain_risen : (latest : ℕ) (es : List Timed) → Chain latest es → AllPairs Rises es
chain_risen latest [] c = λ i j d lt within. absurd (omega arith)
chain_risen latest (e ∷ es) c = AllPairs-cons Rises e es (All-from_recursion (Rises e) es (chain_from e.time e.time es (omega arith) c.1)) (chain_risen e.time es c.1)

pub chain_in_order : (start : ℕ) (es : List Timed) → Chain start es → IsInOrder start es
chain_in_order start es c = record { begun = All-from_recursion (λ (e : Timed). start ≤ e.time) es (chain_from start start es (omega arith) c); risen = chain_risen start es c }

order_chain : (start : ℕ) (es : List Timed) → AllByRecursion (λ (e : Timed). start ≤ e.time) es → AllPairs Rises es → Chain start es
order_chain start [] a p = tt
order_chain start (e ∷ es) a p = (
  a.0,
  order_chain e.time es (recursion_from_All (Rises e) es (λ k d lt. p 0 (suc k) d (omega arith) (omega arith))) (λ i j d lt within. p (suc i) (suc j) d (omega arith) (omega arith)),
)

pub in_order_chain : (start : ℕ) (es : List Timed) → IsInOrder start es → Chain start es
in_order_chain start es o = order_chain start es (recursion_from_All (λ (e : Timed). start ≤ e.time) es o.begun) o.risen

chain_last : (latest : ℕ) (es : List Timed) → Chain latest es → latest ≤ last_time latest es
chain_last latest [] c = omega arith
chain_last latest (e ∷ es) c = let next = c.0 in let later = chain_last e.time es c.1 in omega arith

chain_below : (latest : ℕ) (es : List Timed) (k : ℕ) (d : Timed) → Chain latest es → k < length es → (get_or es k d).time ≤ last_time latest es
chain_below latest [] k d c lt = absurd (omega arith)
chain_below latest (e ∷ es) zero d c lt = chain_last e.time es c.1
chain_below latest (e ∷ es) (suc k) d c lt = chain_below e.time es k d c.1 (omega arith)

pub chain_front : (latest : ℕ) (es later : List Timed) → Chain latest (es ++ later) → Chain latest es
chain_front latest [] later c = tt
chain_front latest (e ∷ es) later c = (c.0, chain_front e.time es later c.1)

pub all_front : (P : Timed → Type 0) (es later : List Timed) → AllByRecursion P (es ++ later) → AllByRecursion P es
all_front P [] later a = tt
all_front P (e ∷ es) later a = (a.0, all_front P es later a.1)

-- a time below the last is below the start or below that of an event
pub late_is : (start : ℕ) (es : List Timed) (e : Timed) → e.time < last_time start es → IsLate start es e
late_is start [] e lt = inl lt
late_is start (x ∷ es) e lt = elim (late_is x.time es e lt) [
  | inl sooner ↦ inr (0, x, omega arith, refl, sooner)
  | inr any ↦ inr (suc any.0, any.1, (let within = any.2 in omega arith), any.3, any.4)
]

pub late_again : (start : ℕ) (es : List Timed) (e : Timed) → Chain start es → IsLate start es e → e.time < last_time start es
late_again start es e c late = elim late [
  | inl sooner ↦ let last = chain_last start es c in omega arith
  | inr any ↦ let below = subst (λ (x : Timed). x.time ≤ last_time start es) any.3 (chain_below start es any.0 any.1 c any.2) in let lt = any.4 in omega arith
]

-- ---- steps

pub bind_okay : {A B : Type 0} (m : Result A ScriptError) (k : A → Result B ScriptError) (y : B) → (m >>> k) ≡ Ok y → (x : A) × (m ≡ Ok x) × (k x ≡ Ok y)
bind_okay (Ok x) k y e = (x, refl, e)
bind_okay (Err err) k y e = absurd cc

pub bind_failed : {A B : Type 0} (m : Result A ScriptError) (k : A → Result B ScriptError) (err : ScriptError) → (m >>> k) ≡ Err err → (m ≡ Err err) ⊎ ((x : A) × (m ≡ Ok x) × (k x ≡ Err err))
bind_failed (Ok x) k err e = inr (x, refl, e)
bind_failed {A} (Err other) k err e = inl (let same : other ≡ err = cc in ap Err same)

pub ok_inj : {A : Type 0} {E : Type 0} (x y : A) → ◌≡◌ {A = Result A E} (Ok x) (Ok y) → x ≡ y
ok_inj x y e = cc

pub err_inj : {A : Type 0} {E : Type 0} (x y : E) → ◌≡◌ {A = Result A E} (Err x) (Err y) → x ≡ y
err_inj x y e = cc

pub cons_head : {A : Type 0} (x y : A) (xs ys : List A) → x ∷ xs ≡ y ∷ ys → x ≡ y
cons_head x y xs ys e = cc

pub cons_tail : {A : Type 0} (x y : A) (xs ys : List A) → x ∷ xs ≡ y ∷ ys → xs ≡ ys
cons_tail x y xs ys e = cc

or_form_ok : {A : Type 0} (o : Option A) (n : ℕ) (x : A) → or_form o n ≡ Ok x → o ≡ Some x
or_form_ok (Some y) n x e = ap Some (ok_inj y x e)
or_form_ok None n x e = absurd cc

or_form_err : {A : Type 0} (o : Option A) (n : ℕ) (err : ScriptError) → or_form o n ≡ Err err → (o ≡ None) × (err ≡ Bad n Form)
or_form_err (Some y) n err e = absurd cc
or_form_err {A} None n err e = (refl, sym (err_inj {A = A} (Bad n Form) err e))

pub record FirstIs {A : Type 0} (read : List ℕ → Option A) (lines : Kept) (x : A) (rest : Kept) : Type 0 where
  pub number : ℕ
  pub line : List ℕ
  pub lines_are : lines ≡ (number, line) ∷ rest
  pub is : read line ≡ Some x

pub first_is : {A : Type 0} (read : List ℕ → Option A) (E : ℕ) (lines : Kept) (x : A) (rest : Kept) → first read E lines ≡ Ok (x, rest) → FirstIs read lines x rest
first_is read E [] x rest e = absurd cc
first_is {A} read E ((n, line) ∷ lines) x rest e =
    let p = bind_okay (or_form (read line) n) _ (x, rest) e in
    let same = ok_inj {A = A × Kept} {E = ScriptError} (p.0, lines) (x, rest) p.2 in
    record { number = n; line = line; lines_are = ap (λ (t : A × Kept). (n, line) ∷ t.1) same; is = or_form_ok (read line) n x (p.1 ∙ ap (λ (t : A × Kept). Ok t.0) same) }

-- a step that fails: there is no line, or it isn't read
abbrev pub Fault : {A : Type 0} → (List ℕ → Option A) → ℕ → Kept → ScriptError → Type 0
Fault read E lines err = ((lines ≡ []) × (err ≡ Bad E End)) ⊎ ((n : ℕ) × (line : List ℕ) × (rest : Kept) × (lines ≡ (n, line) ∷ rest) × (err ≡ Bad n Form) × (read line ≡ None))

pub first_fails : {A : Type 0} (read : List ℕ → Option A) (E : ℕ) (lines : Kept) (err : ScriptError) → first read E lines ≡ Err err → Fault read E lines err
first_fails {A} read E [] err e = inl (refl, sym (err_inj {A = A × Kept} (Bad E End) err e))
first_fails {A} read E ((n, line) ∷ lines) err e = elim (bind_failed (or_form (read line) n) _ err e) [
  | inl f ↦ let p = or_form_err (read line) n err f in inr (n, line, lines, refl, p.1, p.0)
  | inr g ↦ absurd (let h = g.2 in cc)
]

-- ---- events

late_or_timely : (n : ℕ) (x : Timed) (latest : ℕ) (late : Bool) → ltb x.time latest ≡ late → (in_time latest n x ≡ Err (Bad n Order)) × (x.time < latest) ⊎ (in_time latest n x ≡ Ok x) × (latest ≤ x.time)
late_or_timely n x latest true t = inl (rw t refl, ltb-true x.time latest t)
late_or_timely n x latest false t = inr (rw t refl, ltb-false x.time latest t)

timely_ok : (latest n : ℕ) (x e : Timed) → in_time latest n x ≡ Ok e → (latest ≤ e.time) × (x ≡ e)
timely_ok latest n x e h = elim (late_or_timely n x latest (ltb x.time latest) refl) [
  | inl late ↦ absurd (let l = late.0 in cc)
  | inr timely ↦ let same = ok_inj {A = Timed} {E = ScriptError} x e (sym timely.0 ∙ h) in (subst (λ (y : Timed). latest ≤ y.time) same timely.1, same)
]

timely_err : (latest n : ℕ) (x : Timed) (err : ScriptError) → in_time latest n x ≡ Err err → (x.time < latest) × (err ≡ Bad n Order)
timely_err latest n x err h = elim (late_or_timely n x latest (ltb x.time latest) refl) [
  | inl late ↦ (late.1, sym (err_inj {A = Timed} (Bad n Order) err (sym late.0 ∙ h)))
  | inr timely ↦ absurd (let t = timely.0 in cc)
]

event_is : (latest n : ℕ) (line : List ℕ) (e : Timed) → event_answer latest (n, line) ≡ Ok e → IsEvent e × (line ≡ event_line e) × (latest ≤ e.time)
event_is latest n line e h =
    let p = bind_okay (or_form (event_of line) n) (in_time latest n) e h in
    let t = timely_ok latest n p.0 e p.2 in
    let s = (event_exact line).found e (or_form_ok (event_of line) n p.0 p.1 ∙ ap Some t.1) in
    (s.0, s.1, t.0)

event_again : (latest n : ℕ) (line : List ℕ) (e : Timed) → IsEvent e → line ≡ event_line e → latest ≤ e.time → event_answer latest (n, line) ≡ Ok e
event_again latest n line e fit spelled le =
    let read = (event_exact line).only e (fit, spelled) in
    rw (read, le-ltb e.time latest le) refl

-- why an event isn't taken
abbrev pub EventFault : ℕ → ℕ → List ℕ → ScriptError → Type 0
EventFault latest n line err = ((err ≡ Bad n Form) × ((e : Timed) → IsEvent e × (line ≡ event_line e) → ⊥)) ⊎ ((err ≡ Bad n Order) × ((e : Timed) × IsEvent e × (line ≡ event_line e) × (e.time < latest)))

event_fails : (latest n : ℕ) (line : List ℕ) (err : ScriptError) → event_answer latest (n, line) ≡ Err err → EventFault latest n line err
event_fails latest n line err h = elim (bind_failed (or_form (event_of line) n) (in_time latest n) err h) [
  | inl f ↦ let p = or_form_err (event_of line) n err f in inl (p.1, exact-none_spelled _ (event_of line) (event_exact line) p.0)
  | inr g ↦
      let s = (event_exact line).found g.0 (or_form_ok (event_of line) n g.0 g.1) in
      let t = timely_err latest n g.0 err g.2 in
      inr (t.1, (g.0, s.0, s.1, t.0))
]

pub event_form : (latest n : ℕ) (line : List ℕ) → ((e : Timed) → IsEvent e × (line ≡ event_line e) → ⊥) → event_answer latest (n, line) ≡ Err (Bad n Form)
event_form latest n line refused = rw (exact-refused _ (event_of line) (event_of line) (event_exact line) refl refused) refl

pub event_order : (latest n : ℕ) (line : List ℕ) (e : Timed) → IsEvent e → line ≡ event_line e → e.time < latest → event_answer latest (n, line) ≡ Err (Bad n Order)
event_order latest n line e fit spelled lt =
    let read = (event_exact line).only e (fit, spelled) in
    rw (read, lt-ltb e.time latest lt) refl

with_front_ok : (front : List Timed) (r : Result (List Timed) ScriptError) (es : List Timed) → with_events front r ≡ Ok es → (rest : List Timed) × (r ≡ Ok rest) × (front ++ rest ≡ es)
with_front_ok front (Ok rest) es e = (rest, refl, ok_inj {A = List Timed} {E = ScriptError} (front ++ rest) es e)
with_front_ok front (Err err) es e = absurd cc

with_front_err : (front : List Timed) (r : Result (List Timed) ScriptError) (err : ScriptError) → with_events front r ≡ Err err → r ≡ Err err
with_front_err front (Ok rest) err e = absurd cc
with_front_err front (Err other) err e = ap Err (err_inj {A = List Timed} other err e)

pub record EventsAre (latest : ℕ) (lines : Kept) (es : List Timed) : Type 0 where
  pub fit : AllByRecursion IsEvent es
  pub chain : Chain latest es
  pub spelled : texts lines ≡ map event_line es

events_are-cons : (latest n : ℕ) (line : List ℕ) (lines : Kept) (e : Timed) (es : List Timed) → IsEvent e × (line ≡ event_line e) × (latest ≤ e.time) → EventsAre e.time lines es → EventsAre latest ((n, line) ∷ lines) (e ∷ es)
events_are-cons latest n line lines e es h a = record { fit = (h.0, a.fit); chain = (h.2, a.chain); spelled = ap (λ (t : List ℕ). t ∷ texts lines) h.1 ∙ ap (λ (ts : List (List ℕ)). event_line e ∷ ts) a.spelled }

pub events_is : (latest : ℕ) (lines : Kept) (es : List Timed) → events_from latest lines ≡ Ok es → EventsAre latest lines es
unfolding events_from
events_is latest [] es h = subst (EventsAre latest []) (ok_inj {A = List Timed} {E = ScriptError} [] es h) (record { fit = tt; chain = tt; spelled = refl })
events_is latest ((n, line) ∷ lines) es h =
    let p = bind_okay (event_answer latest (n, line)) _ es h in
    let w = with_front_ok (p.0 ∷ []) (events_from p.0.time lines) es p.2 in
    subst (EventsAre latest ((n, line) ∷ lines)) w.2
    (events_are-cons latest n line lines p.0 w.0 (event_is latest n line p.0 p.1) (events_is p.0.time lines w.0 w.1))

with_front-cons : (e : Timed) (es : List Timed) (r : Result (List Timed) ScriptError) → with_events (e ∷ []) (with_events es r) ≡ with_events (e ∷ es) r
with_front-cons e es (Ok rest) = refl
with_front-cons e es (Err err) = refl

with_front-nil : (r : Result (List Timed) ScriptError) → r ≡ with_events [] r
with_front-nil (Ok rest) = refl
with_front-nil (Err err) = refl

-- lines of events are read, and then the others
pub events_on : (latest : ℕ) (lines later : Kept) (es : List Timed) → EventsAre latest lines es → events_from latest (lines ++ later) ≡ with_events es (events_from (last_time latest es) later)
unfolding events_from
events_on latest [] later [] a = with_front-nil (events_from latest later)
events_on latest [] later (e ∷ es) a = absurd (let none = a.spelled in cc)
events_on latest ((n, line) ∷ lines) later [] a = absurd (let none = a.spelled in cc)
events_on latest ((n, line) ∷ lines) later (e ∷ es) a =
    let here = cons_head line (event_line e) (texts lines) (map event_line es) a.spelled in
    let more = events_on e.time lines later es (record { fit = a.fit.1; chain = a.chain.1; spelled = cons_tail line (event_line e) (texts lines) (map event_line es) a.spelled }) in
    rw (event_again latest n line e a.fit.0 here a.chain.0, more) (with_front-cons e es (events_from (last_time e.time es) later))

-- the first event that isn't taken
pub record EventsFail (latest : ℕ) (lines : Kept) (err : ScriptError) : Type 0 where
  pub before : Kept
  pub events : List Timed
  pub number : ℕ
  pub line : List ℕ
  pub after : Kept
  pub lines_are : lines ≡ before ++ (number, line) ∷ after
  pub read : EventsAre latest before events
  pub fault : EventFault (last_time latest events) number line err

pub events_fail : (latest : ℕ) (lines : Kept) (err : ScriptError) → events_from latest lines ≡ Err err → EventsFail latest lines err
unfolding events_from
events_fail latest [] err h = absurd cc
events_fail latest ((n, line) ∷ lines) err h = elim (bind_failed (event_answer latest (n, line)) _ err h) [
  | inl f ↦ record { before = []; events = []; number = n; line = line; after = lines; lines_are = refl; read = record { fit = tt; chain = tt; spelled = refl }; fault = event_fails latest n line err f }
  | inr g ↦
      let f = events_fail g.0.time lines err (with_front_err (g.0 ∷ []) (events_from g.0.time lines) err g.2) in
      record {
        before = (n, line) ∷ f.before;
        events = g.0 ∷ f.events;
        number = f.number;
        line = f.line;
        after = f.after;
        lines_are = ap (λ (t : Kept). (n, line) ∷ t) f.lines_are;
        read = events_are-cons latest n line f.before g.0 f.events (event_is latest n line g.0 g.1) f.read;
        fault = f.fault;
      }
]

-- ---- the first six lines

-- what the first six lines say
abbrev pub head : Contents → Contents
head c = record { mac = c.mac; capacity = c.capacity; start = c.start; drop_802_3 = c.drop_802_3; deny = c.deny; events = [] }

pub record Head (c : Contents) : Type 0 where
  pub mac : IsMac c.mac
  pub capacity : IsCapacity c.capacity
  pub start : IsWordNumber c.start
  pub deny : IsDeny c.deny

pub sound_head : (c : Contents) → IsSoundScript c → Head c
sound_head c s = record { mac = s.mac; capacity = s.capacity; start = s.start; deny = s.deny }

pub read_version : (c : Contents) (line : List ℕ) → Head c → line ≡ version_line → version_read line ≡ Some tt
read_version c line h e = (version_exact line).only tt e

pub read_mac : (c : Contents) (line : List ℕ) → Head c → line ≡ mac_line c.mac → mac_read line ≡ Some c.mac
read_mac c line h e = (mac_line_exact line).only c.mac (h.mac, e)

pub read_capacity : (c : Contents) (line : List ℕ) → Head c → line ≡ capacity_line c.capacity → capacity_read line ≡ Some c.capacity
read_capacity c line h e = (capacity_line_exact line).only c.capacity (h.capacity, e)

pub read_start : (c : Contents) (line : List ℕ) → Head c → line ≡ start_line c.start → start_read line ≡ Some c.start
read_start c line h e = (start_line_exact line).only c.start (h.start, e)

pub read_dropped : (c : Contents) (line : List ℕ) → Head c → line ≡ drop_line c.drop_802_3 → drop_read line ≡ Some c.drop_802_3
read_dropped c line h e = (drop_line_exact line).only c.drop_802_3 e

pub read_deny : (c : Contents) (line : List ℕ) → Head c → line ≡ deny_line c.deny → deny_read line ≡ Some c.deny
read_deny c line h e = (deny_line_exact line).only c.deny (h.deny, e)

pub six_on : (c : Contents) (E : ℕ) (n0 n1 n2 n3 n4 n5 : ℕ) (l0 l1 l2 l3 l4 l5 : List ℕ) (rest : Kept) → Head c → l0 ≡ version_line → l1 ≡ mac_line c.mac → l2 ≡ capacity_line c.capacity → l3 ≡ start_line c.start → l4 ≡ drop_line c.drop_802_3 → l5 ≡ deny_line c.deny → first_six E ((n0, l0) ∷ (n1, l1) ∷ (n2, l2) ∷ (n3, l3) ∷ (n4, l4) ∷ (n5, l5) ∷ rest) ≡ Ok (head c, rest)
unfolding first_six
six_on c E n0 n1 n2 n3 n4 n5 l0 l1 l2 l3 l4 l5 rest h e0 e1 e2 e3 e4 e5 = rw (read_version c l0 h e0, read_mac c l1 h e1, read_capacity c l2 h e2, read_start c l3 h e3, read_dropped c l4 h e4, read_deny c l5 h e5) refl

pub record SixAre (lines : Kept) (c : Contents) (rest : Kept) : Type 0 where
  pub front : Kept
  pub six : length front ≡ 6
  pub lines_are : lines ≡ front ++ rest
  pub spelled : texts front ≡ first_lines c
  pub events : c.events ≡ []
  pub ranges : Head c

pub six_is : (E : ℕ) (lines : Kept) (c : Contents) (rest : Kept) → first_six E lines ≡ Ok (c, rest) → SixAre lines c rest
unfolding first_six
six_is E lines c rest e =
    let p0 = bind_okay (first version_read E lines) _ (c, rest) e in
    let f0 = first_is version_read E lines p0.0.0 p0.0.1 p0.1 in
    let s0 = (version_exact f0.line).found p0.0.0 f0.is in
    let p1 = bind_okay (first mac_read E p0.0.1) _ (c, rest) p0.2 in
    let f1 = first_is mac_read E p0.0.1 p1.0.0 p1.0.1 p1.1 in
    let s1 = (mac_line_exact f1.line).found p1.0.0 f1.is in
    let p2 = bind_okay (first capacity_read E p1.0.1) _ (c, rest) p1.2 in
    let f2 = first_is capacity_read E p1.0.1 p2.0.0 p2.0.1 p2.1 in
    let s2 = (capacity_line_exact f2.line).found p2.0.0 f2.is in
    let p3 = bind_okay (first start_read E p2.0.1) _ (c, rest) p2.2 in
    let f3 = first_is start_read E p2.0.1 p3.0.0 p3.0.1 p3.1 in
    let s3 = (start_line_exact f3.line).found p3.0.0 f3.is in
    let p4 = bind_okay (first drop_read E p3.0.1) _ (c, rest) p3.2 in
    let f4 = first_is drop_read E p3.0.1 p4.0.0 p4.0.1 p4.1 in
    let s4 = (drop_line_exact f4.line).found p4.0.0 f4.is in
    let p5 = bind_okay (first deny_read E p4.0.1) _ (c, rest) p4.2 in
    let f5 = first_is deny_read E p4.0.1 p5.0.0 p5.0.1 p5.1 in
    let s5 = (deny_line_exact f5.line).found p5.0.0 f5.is in
    let told : Contents = record { mac = p1.0.0; capacity = p2.0.0; start = p3.0.0; drop_802_3 = p4.0.0; deny = p5.0.0; events = [] } in
    let same = ok_inj {A = Contents × Kept} {E = ScriptError} (told, p5.0.1) (c, rest) p5.2 in
    let front : Kept = (f0.number, f0.line) ∷ (f1.number, f1.line) ∷ (f2.number, f2.line) ∷ (f3.number, f3.line) ∷ (f4.number, f4.line) ∷ (f5.number, f5.line) ∷ [] in
    let split : lines ≡ front ++ p5.0.1 = six_split lines front p0.0.1 p1.0.1 p2.0.1 p3.0.1 p4.0.1 p5.0.1 (f0.number, f0.line) (f1.number, f1.line) (f2.number, f2.line) (f3.number, f3.line) (f4.number, f4.line) (f5.number, f5.line) f0.lines_are f1.lines_are f2.lines_are f3.lines_are f4.lines_are f5.lines_are refl in
    let texts_are : texts front ≡ first_lines told = six_texts f0.line f1.line f2.line f3.line f4.line f5.line told s0 s1.1 s2.1 s3.1 s4 s5.1 in
    subst (λ (t : Contents × Kept). SixAre lines t.0 t.1) same (record { front = front; six = refl; lines_are = split; spelled = texts_are; events = refl; ranges = record { mac = s1.0; capacity = s2.0; start = s3.0; deny = s5.0 } })
  where
    six_split : (lines front r0 r1 r2 r3 r4 r5 : Kept) (a b c d e f : ℕ × List ℕ) → lines ≡ a ∷ r0 → r0 ≡ b ∷ r1 → r1 ≡ c ∷ r2 → r2 ≡ d ∷ r3 → r3 ≡ e ∷ r4 → r4 ≡ f ∷ r5 → front ≡ a ∷ b ∷ c ∷ d ∷ e ∷ f ∷ [] → lines ≡ front ++ r5
    six_split lines front r0 r1 r2 r3 r4 r5 a b c d e f p q m n i j k = rw (p, q, m, n, i, j, k) refl

    six_texts : (l0 l1 l2 l3 l4 l5 : List ℕ) (c : Contents) → l0 ≡ version_line → l1 ≡ mac_line c.mac → l2 ≡ capacity_line c.capacity → l3 ≡ start_line c.start → l4 ≡ drop_line c.drop_802_3 → l5 ≡ deny_line c.deny → l0 ∷ l1 ∷ l2 ∷ l3 ∷ l4 ∷ l5 ∷ [] ≡ first_lines c
    six_texts l0 l1 l2 l3 l4 l5 c e0 e1 e2 e3 e4 e5 = rw (e0, e1, e2, e3, e4, e5) refl
