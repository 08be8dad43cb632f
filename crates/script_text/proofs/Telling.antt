-- What calls answer one after another is what the steps of the definition answer.
use Rattle.std.proofs.Common.{◌≡◌, ℕ, Bool, List, [], ◌∷◌, ◌++◌, Result, Ok, Err, refl, sym, ap, ◌∙◌, append_assoc}
use Rattle.std.proofs.lemmas.List.{append-nil}
use Rattle.policy_state.specs.declared.basis.Timed.{Timed}
use Rattle.script_text.specs.declared.script_error.ScriptError.{ScriptError}
use Rattle.script_text.specs.declared.script_error.ScriptError.TheVariants.{Bad, OutOfMemory}
use Rattle.script_text.specs.ScriptLines.{Contents}
use Rattle.script_text.specs.ScriptReading.{◌>>>◌, first, first_six, event_answer, with_events, events_from, contents_from, Fails, version_read, mac_read, capacity_read, start_read, drop_read, deny_read}

-- an error of a step is that of the whole
told_bind : {Y W : Type 0} (e : ScriptError) (m : Result Y ScriptError) (k : Y → Result W ScriptError) → Fails e m → Fails e (m >>> k)
told_bind (Bad number kind) m k t = rw t refl
told_bind OutOfMemory m k t = tt

-- ---- the first six lines

abbrev Kept : Type 0
Kept = List (ℕ × List ℕ)

pub told_version : (e : ScriptError) (E : ℕ) (l0 : Kept) → Fails e (first version_read E l0) → Fails e (first_six E l0)
unfolding first_six
told_version e E l0 t =
    let u = t in
    told_bind e (first version_read E l0) _ u

pub told_mac : (e : ScriptError) (E : ℕ) (E1 : ℕ) (l0 l1 : Kept) → E1 ≡ E → first version_read E l0 ≡ Ok (tt, l1) → Fails e (first mac_read E1 l1) → Fails e (first_six E l0)
unfolding first_six
told_mac e E E1 l0 l1 q1 e0 t =
    let p1 : E1 ≡ E = q1 in
    let u : Fails e (first mac_read E l1) = rw p1 at t in
    rw (e0) (told_bind e (first mac_read E l1) _ u)

pub told_capacity : (e : ScriptError) (E : ℕ) (E1 : ℕ) (E2 : ℕ) (l0 l1 l2 : Kept) (mac : List ℕ) → E1 ≡ E → E2 ≡ E1 → first version_read E l0 ≡ Ok (tt, l1) → first mac_read E1 l1 ≡ Ok (mac, l2) → Fails e (first capacity_read E2 l2) → Fails e (first_six E l0)
unfolding first_six
told_capacity e E E1 E2 l0 l1 l2 mac q1 q2 e0 e1 t =
    let p1 : E1 ≡ E = q1 in
    let p2 : E2 ≡ E = q2 ∙ q1 in
    let f1 : first mac_read E l1 ≡ Ok (mac, l2) = ap (λ (x : ℕ). first mac_read x l1) (sym p1) ∙ e1 in
    let u : Fails e (first capacity_read E l2) = rw p2 at t in
    rw (e0, f1) (told_bind e (first capacity_read E l2) _ u)

pub told_start : (e : ScriptError) (E : ℕ) (E1 : ℕ) (E2 : ℕ) (E3 : ℕ) (l0 l1 l2 l3 : Kept) (mac : List ℕ) (capacity : ℕ) → E1 ≡ E → E2 ≡ E1 → E3 ≡ E2 → first version_read E l0 ≡ Ok (tt, l1) → first mac_read E1 l1 ≡ Ok (mac, l2) → first capacity_read E2 l2 ≡ Ok (capacity, l3) → Fails e (first start_read E3 l3) → Fails e (first_six E l0)
unfolding first_six
told_start e E E1 E2 E3 l0 l1 l2 l3 mac capacity q1 q2 q3 e0 e1 e2 t =
    let p1 : E1 ≡ E = q1 in
    let p2 : E2 ≡ E = q2 ∙ q1 in
    let p3 : E3 ≡ E = q3 ∙ q2 ∙ q1 in
    let f1 : first mac_read E l1 ≡ Ok (mac, l2) = ap (λ (x : ℕ). first mac_read x l1) (sym p1) ∙ e1 in
    let f2 : first capacity_read E l2 ≡ Ok (capacity, l3) = ap (λ (x : ℕ). first capacity_read x l2) (sym p2) ∙ e2 in
    let u : Fails e (first start_read E l3) = rw p3 at t in
    rw (e0, f1, f2) (told_bind e (first start_read E l3) _ u)

pub told_dropped : (e : ScriptError) (E : ℕ) (E1 : ℕ) (E2 : ℕ) (E3 : ℕ) (E4 : ℕ) (l0 l1 l2 l3 l4 : Kept) (mac : List ℕ) (capacity : ℕ) (start : ℕ) → E1 ≡ E → E2 ≡ E1 → E3 ≡ E2 → E4 ≡ E3 → first version_read E l0 ≡ Ok (tt, l1) → first mac_read E1 l1 ≡ Ok (mac, l2) → first capacity_read E2 l2 ≡ Ok (capacity, l3) → first start_read E3 l3 ≡ Ok (start, l4) → Fails e (first drop_read E4 l4) → Fails e (first_six E l0)
unfolding first_six
told_dropped e E E1 E2 E3 E4 l0 l1 l2 l3 l4 mac capacity start q1 q2 q3 q4 e0 e1 e2 e3 t =
    let p1 : E1 ≡ E = q1 in
    let p2 : E2 ≡ E = q2 ∙ q1 in
    let p3 : E3 ≡ E = q3 ∙ q2 ∙ q1 in
    let p4 : E4 ≡ E = q4 ∙ q3 ∙ q2 ∙ q1 in
    let f1 : first mac_read E l1 ≡ Ok (mac, l2) = ap (λ (x : ℕ). first mac_read x l1) (sym p1) ∙ e1 in
    let f2 : first capacity_read E l2 ≡ Ok (capacity, l3) = ap (λ (x : ℕ). first capacity_read x l2) (sym p2) ∙ e2 in
    let f3 : first start_read E l3 ≡ Ok (start, l4) = ap (λ (x : ℕ). first start_read x l3) (sym p3) ∙ e3 in
    let u : Fails e (first drop_read E l4) = rw p4 at t in
    rw (e0, f1, f2, f3) (told_bind e (first drop_read E l4) _ u)

pub told_deny : (e : ScriptError) (E : ℕ) (E1 : ℕ) (E2 : ℕ) (E3 : ℕ) (E4 : ℕ) (E5 : ℕ) (l0 l1 l2 l3 l4 l5 : Kept) (mac : List ℕ) (capacity : ℕ) (start : ℕ) (dropped : Bool) → E1 ≡ E → E2 ≡ E1 → E3 ≡ E2 → E4 ≡ E3 → E5 ≡ E4 → first version_read E l0 ≡ Ok (tt, l1) → first mac_read E1 l1 ≡ Ok (mac, l2) → first capacity_read E2 l2 ≡ Ok (capacity, l3) → first start_read E3 l3 ≡ Ok (start, l4) → first drop_read E4 l4 ≡ Ok (dropped, l5) → Fails e (first deny_read E5 l5) → Fails e (first_six E l0)
unfolding first_six
told_deny e E E1 E2 E3 E4 E5 l0 l1 l2 l3 l4 l5 mac capacity start dropped q1 q2 q3 q4 q5 e0 e1 e2 e3 e4 t =
    let p1 : E1 ≡ E = q1 in
    let p2 : E2 ≡ E = q2 ∙ q1 in
    let p3 : E3 ≡ E = q3 ∙ q2 ∙ q1 in
    let p4 : E4 ≡ E = q4 ∙ q3 ∙ q2 ∙ q1 in
    let p5 : E5 ≡ E = q5 ∙ q4 ∙ q3 ∙ q2 ∙ q1 in
    let f1 : first mac_read E l1 ≡ Ok (mac, l2) = ap (λ (x : ℕ). first mac_read x l1) (sym p1) ∙ e1 in
    let f2 : first capacity_read E l2 ≡ Ok (capacity, l3) = ap (λ (x : ℕ). first capacity_read x l2) (sym p2) ∙ e2 in
    let f3 : first start_read E l3 ≡ Ok (start, l4) = ap (λ (x : ℕ). first start_read x l3) (sym p3) ∙ e3 in
    let f4 : first drop_read E l4 ≡ Ok (dropped, l5) = ap (λ (x : ℕ). first drop_read x l4) (sym p4) ∙ e4 in
    let u : Fails e (first deny_read E l5) = rw p5 at t in
    rw (e0, f1, f2, f3, f4) (told_bind e (first deny_read E l5) _ u)

pub told_six : (E : ℕ) (E1 : ℕ) (E2 : ℕ) (E3 : ℕ) (E4 : ℕ) (E5 : ℕ) (l0 l1 l2 l3 l4 l5 l6 : Kept) (mac : List ℕ) (capacity : ℕ) (start : ℕ) (dropped : Bool) (deny : List ℕ) → E1 ≡ E → E2 ≡ E1 → E3 ≡ E2 → E4 ≡ E3 → E5 ≡ E4 → first version_read E l0 ≡ Ok (tt, l1) → first mac_read E1 l1 ≡ Ok (mac, l2) → first capacity_read E2 l2 ≡ Ok (capacity, l3) → first start_read E3 l3 ≡ Ok (start, l4) → first drop_read E4 l4 ≡ Ok (dropped, l5) → first deny_read E5 l5 ≡ Ok (deny, l6) → first_six E l0 ≡ Ok (record { mac = mac; capacity = capacity; start = start; drop_802_3 = dropped; deny = deny; events = [] }, l6)
unfolding first_six
told_six E E1 E2 E3 E4 E5 l0 l1 l2 l3 l4 l5 l6 mac capacity start dropped deny q1 q2 q3 q4 q5 e0 e1 e2 e3 e4 e5 =
    let p1 : E1 ≡ E = q1 in
    let p2 : E2 ≡ E = q2 ∙ q1 in
    let p3 : E3 ≡ E = q3 ∙ q2 ∙ q1 in
    let p4 : E4 ≡ E = q4 ∙ q3 ∙ q2 ∙ q1 in
    let p5 : E5 ≡ E = q5 ∙ q4 ∙ q3 ∙ q2 ∙ q1 in
    let f1 : first mac_read E l1 ≡ Ok (mac, l2) = ap (λ (x : ℕ). first mac_read x l1) (sym p1) ∙ e1 in
    let f2 : first capacity_read E l2 ≡ Ok (capacity, l3) = ap (λ (x : ℕ). first capacity_read x l2) (sym p2) ∙ e2 in
    let f3 : first start_read E l3 ≡ Ok (start, l4) = ap (λ (x : ℕ). first start_read x l3) (sym p3) ∙ e3 in
    let f4 : first drop_read E l4 ≡ Ok (dropped, l5) = ap (λ (x : ℕ). first drop_read x l4) (sym p4) ∙ e4 in
    let f5 : first deny_read E l5 ≡ Ok (deny, l6) = ap (λ (x : ℕ). first deny_read x l5) (sym p5) ∙ e5 in
    rw (e0, f1, f2, f3, f4, f5) refl

-- ---- events

with_front-with_front : (a b : List Timed) (r : Result (List Timed) ScriptError) → with_events a (with_events b r) ≡ with_events (a ++ b) r
with_front-with_front a b (Ok events) = ap Ok (sym (append_assoc a b events))
with_front-with_front a b (Err e) = refl

pub turn : (answer : Result (List Timed) ScriptError) (events : List Timed) (latest number : ℕ) (line : List ℕ) (old lines : Kept) (e : Timed)
    → answer ≡ with_events events (events_from latest old) → old ≡ (number, line) ∷ lines → event_answer latest (number, line) ≡ Ok e → answer ≡ with_events (events ++ e ∷ []) (events_from e.time lines)
unfolding events_from
turn answer events latest number line old lines e h split read =
    h
    ∙ ap (λ (ls : Kept). with_events events (events_from latest ls)) split
    ∙ ap (λ (r : Result Timed ScriptError). with_events events (r >>> λ e. with_events (e ∷ []) (events_from e.time lines))) read
    ∙ with_front-with_front events (e ∷ []) (events_from e.time lines)

pub stopped : (answer : Result (List Timed) ScriptError) (events : List Timed) (latest number : ℕ) (line : List ℕ) (old lines : Kept) (e : ScriptError)
    → answer ≡ with_events events (events_from latest old) → old ≡ (number, line) ∷ lines → event_answer latest (number, line) ≡ Err e → Fails e answer
unfolding events_from
stopped answer events latest number line old lines (Bad n kind) h split read =
    h
    ∙ ap (λ (ls : Kept). with_events events (events_from latest ls)) split
    ∙ ap (λ (r : Result Timed ScriptError). with_events events (r >>> λ e. with_events (e ∷ []) (events_from e.time lines))) read
stopped answer events latest number line old lines OutOfMemory h split read = tt

pub ended : (answer : Result (List Timed) ScriptError) (events : List Timed) (latest : ℕ) (old : Kept) → answer ≡ with_events events (events_from latest old) → old ≡ [] → answer ≡ Ok events
unfolding events_from
ended answer events latest old h none = h ∙ ap (λ (ls : Kept). with_events events (events_from latest ls)) none ∙ ap Ok (append-nil events)

-- ---- the whole

pub told_head : (e : ScriptError) (E : ℕ) (lines : Kept) → Fails e (first_six E lines) → Fails e (contents_from E lines)
unfolding contents_from
told_head e E lines t = told_bind e (first_six E lines) _ t

pub told_events : (e : ScriptError) (E : ℕ) (lines later : Kept) (head : Contents) → first_six E lines ≡ Ok (head, later) → Fails e (events_from head.start later) → Fails e (contents_from E lines)
unfolding contents_from
told_events e E lines later head six t = rw six (told_bind e (events_from head.start later) _ t)

pub told_all : (E : ℕ) (lines later : Kept) (head : Contents) (events : List Timed) → first_six E lines ≡ Ok (head, later) → events_from head.start later ≡ Ok events
    → contents_from E lines ≡ Ok (record { mac = head.mac; capacity = head.capacity; start = head.start; drop_802_3 = head.drop_802_3; deny = head.deny; events = events })
unfolding contents_from
told_all E lines later head events six e = rw (six, e) refl
