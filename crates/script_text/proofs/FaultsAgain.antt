-- The first fault of a text is what the function that computes finds.
use Rattle.std.proofs.Common.{◌≡◌, ℕ, zero, suc, ◌+◌, ◌<◌, List, [], ◌∷◌, ◌++◌, length, Result, Ok, Err, refl, sym, ap, subst, ◌∙◌, arith}
use Rattle.std.specs.Prelude.{map}
use Rattle.std.specs.List.{AllByRecursion}
use Rattle.std.proofs.lemmas.List.{append-nil}
use Rattle.std.proofs.lemmas.List.Elements.{recursion_from_All}
use Rattle.policy_state.specs.declared.basis.Timed.{Timed}
use Rattle.script_text.specs.declared.script_error.ScriptError.{ScriptError}
use Rattle.script_text.specs.declared.script_error.ScriptError.TheVariants.{Bad}
use Rattle.script_text.specs.declared.script_error.ScriptKind.{ScriptKind}
use Rattle.script_text.specs.declared.script_error.ScriptKind.TheVariants.{Form, Order, End}
use Rattle.plain_text.specs.Lines.{lines_of}
use Rattle.script_text.specs.ScriptLines.{Contents, version_line, mac_line, capacity_line, start_line, drop_line, deny_line, event_line, lines_saying, IsEvent, kept_lines}
use Rattle.script_text.specs.Scripts.{IsSoundScript}
use Rattle.script_text.specs.ScriptFaults.{IsOfForm, ScriptRefuses}
use Rattle.script_text.specs.ScriptReading.{◌>>>◌, first, first_six, event_answer, with_events, events_from, contents_from, script_answer, version_read, mac_read, capacity_read, start_read, drop_read, deny_read}
use Rattle.script_text.proofs.Exactness.{exact-refused}
use Rattle.script_text.proofs.LineWords.{version_exact, mac_line_exact, capacity_line_exact, start_line_exact, drop_line_exact, deny_line_exact}
use Rattle.script_text.proofs.Grammar.{Kept, texts, Chain, last_time, in_order_chain, chain_front, all_front, late_again, cons_head, cons_tail, event_form, event_order, EventsAre, events_on, Head, head, sound_head, six_on, read_version, read_mac, read_capacity, read_start, read_dropped}
use Rattle.script_text.proofs.Said.{six_of, events_of}
use Rattle.script_text.proofs.FaultsFound.{length-texts}

-- ---- faults, again

-- the step at a place ends so
abbrev StopsAt : ℕ → ℕ → Kept → ScriptError → Type 0
StopsAt zero E tail err = first version_read E tail ≡ Err err
StopsAt (suc zero) E tail err = first mac_read E tail ≡ Err err
StopsAt (suc (suc zero)) E tail err = first capacity_read E tail ≡ Err err
StopsAt (suc (suc (suc zero))) E tail err = first start_read E tail ≡ Err err
StopsAt (suc (suc (suc (suc zero)))) E tail err = first drop_read E tail ≡ Err err
StopsAt (suc (suc (suc (suc (suc zero))))) E tail err = first deny_read E tail ≡ Err err
StopsAt (suc (suc (suc (suc (suc (suc place)))))) E tail err = Unit {0}

six_stops : (c : Contents) (E : ℕ) (before tail : Kept) (later : List (List ℕ)) (err : ScriptError) → Head c → lines_saying c ≡ texts before ++ later → length before < 6 → StopsAt (length before) E tail err → first_six E (before ++ tail) ≡ Err err
unfolding first_six
six_stops c E [] tail later err h e few stop =
    rw stop refl
six_stops c E ((n0, l0) ∷ []) tail later err h e few stop =
    let h0 = cons_head (version_line) l0 (mac_line c.mac ∷ capacity_line c.capacity ∷ start_line c.start ∷ drop_line c.drop_802_3 ∷ deny_line c.deny ∷ map event_line c.events) (later) e in
    let t0 = cons_tail (version_line) l0 (mac_line c.mac ∷ capacity_line c.capacity ∷ start_line c.start ∷ drop_line c.drop_802_3 ∷ deny_line c.deny ∷ map event_line c.events) (later) e in
    rw (read_version c l0 h (sym h0), stop) refl
six_stops c E ((n0, l0) ∷ (n1, l1) ∷ []) tail later err h e few stop =
    let h0 = cons_head (version_line) l0 (mac_line c.mac ∷ capacity_line c.capacity ∷ start_line c.start ∷ drop_line c.drop_802_3 ∷ deny_line c.deny ∷ map event_line c.events) (l1 ∷ later) e in
    let t0 = cons_tail (version_line) l0 (mac_line c.mac ∷ capacity_line c.capacity ∷ start_line c.start ∷ drop_line c.drop_802_3 ∷ deny_line c.deny ∷ map event_line c.events) (l1 ∷ later) e in
    let h1 = cons_head (mac_line c.mac) l1 (capacity_line c.capacity ∷ start_line c.start ∷ drop_line c.drop_802_3 ∷ deny_line c.deny ∷ map event_line c.events) (later) t0 in
    let t1 = cons_tail (mac_line c.mac) l1 (capacity_line c.capacity ∷ start_line c.start ∷ drop_line c.drop_802_3 ∷ deny_line c.deny ∷ map event_line c.events) (later) t0 in
    rw (read_version c l0 h (sym h0), read_mac c l1 h (sym h1), stop) refl
six_stops c E ((n0, l0) ∷ (n1, l1) ∷ (n2, l2) ∷ []) tail later err h e few stop =
    let h0 = cons_head (version_line) l0 (mac_line c.mac ∷ capacity_line c.capacity ∷ start_line c.start ∷ drop_line c.drop_802_3 ∷ deny_line c.deny ∷ map event_line c.events) (l1 ∷ l2 ∷ later) e in
    let t0 = cons_tail (version_line) l0 (mac_line c.mac ∷ capacity_line c.capacity ∷ start_line c.start ∷ drop_line c.drop_802_3 ∷ deny_line c.deny ∷ map event_line c.events) (l1 ∷ l2 ∷ later) e in
    let h1 = cons_head (mac_line c.mac) l1 (capacity_line c.capacity ∷ start_line c.start ∷ drop_line c.drop_802_3 ∷ deny_line c.deny ∷ map event_line c.events) (l2 ∷ later) t0 in
    let t1 = cons_tail (mac_line c.mac) l1 (capacity_line c.capacity ∷ start_line c.start ∷ drop_line c.drop_802_3 ∷ deny_line c.deny ∷ map event_line c.events) (l2 ∷ later) t0 in
    let h2 = cons_head (capacity_line c.capacity) l2 (start_line c.start ∷ drop_line c.drop_802_3 ∷ deny_line c.deny ∷ map event_line c.events) (later) t1 in
    let t2 = cons_tail (capacity_line c.capacity) l2 (start_line c.start ∷ drop_line c.drop_802_3 ∷ deny_line c.deny ∷ map event_line c.events) (later) t1 in
    rw (read_version c l0 h (sym h0), read_mac c l1 h (sym h1), read_capacity c l2 h (sym h2), stop) refl
six_stops c E ((n0, l0) ∷ (n1, l1) ∷ (n2, l2) ∷ (n3, l3) ∷ []) tail later err h e few stop =
    let h0 = cons_head (version_line) l0 (mac_line c.mac ∷ capacity_line c.capacity ∷ start_line c.start ∷ drop_line c.drop_802_3 ∷ deny_line c.deny ∷ map event_line c.events) (l1 ∷ l2 ∷ l3 ∷ later) e in
    let t0 = cons_tail (version_line) l0 (mac_line c.mac ∷ capacity_line c.capacity ∷ start_line c.start ∷ drop_line c.drop_802_3 ∷ deny_line c.deny ∷ map event_line c.events) (l1 ∷ l2 ∷ l3 ∷ later) e in
    let h1 = cons_head (mac_line c.mac) l1 (capacity_line c.capacity ∷ start_line c.start ∷ drop_line c.drop_802_3 ∷ deny_line c.deny ∷ map event_line c.events) (l2 ∷ l3 ∷ later) t0 in
    let t1 = cons_tail (mac_line c.mac) l1 (capacity_line c.capacity ∷ start_line c.start ∷ drop_line c.drop_802_3 ∷ deny_line c.deny ∷ map event_line c.events) (l2 ∷ l3 ∷ later) t0 in
    let h2 = cons_head (capacity_line c.capacity) l2 (start_line c.start ∷ drop_line c.drop_802_3 ∷ deny_line c.deny ∷ map event_line c.events) (l3 ∷ later) t1 in
    let t2 = cons_tail (capacity_line c.capacity) l2 (start_line c.start ∷ drop_line c.drop_802_3 ∷ deny_line c.deny ∷ map event_line c.events) (l3 ∷ later) t1 in
    let h3 = cons_head (start_line c.start) l3 (drop_line c.drop_802_3 ∷ deny_line c.deny ∷ map event_line c.events) (later) t2 in
    let t3 = cons_tail (start_line c.start) l3 (drop_line c.drop_802_3 ∷ deny_line c.deny ∷ map event_line c.events) (later) t2 in
    rw (read_version c l0 h (sym h0), read_mac c l1 h (sym h1), read_capacity c l2 h (sym h2), read_start c l3 h (sym h3), stop) refl
six_stops c E ((n0, l0) ∷ (n1, l1) ∷ (n2, l2) ∷ (n3, l3) ∷ (n4, l4) ∷ []) tail later err h e few stop =
    let h0 = cons_head (version_line) l0 (mac_line c.mac ∷ capacity_line c.capacity ∷ start_line c.start ∷ drop_line c.drop_802_3 ∷ deny_line c.deny ∷ map event_line c.events) (l1 ∷ l2 ∷ l3 ∷ l4 ∷ later) e in
    let t0 = cons_tail (version_line) l0 (mac_line c.mac ∷ capacity_line c.capacity ∷ start_line c.start ∷ drop_line c.drop_802_3 ∷ deny_line c.deny ∷ map event_line c.events) (l1 ∷ l2 ∷ l3 ∷ l4 ∷ later) e in
    let h1 = cons_head (mac_line c.mac) l1 (capacity_line c.capacity ∷ start_line c.start ∷ drop_line c.drop_802_3 ∷ deny_line c.deny ∷ map event_line c.events) (l2 ∷ l3 ∷ l4 ∷ later) t0 in
    let t1 = cons_tail (mac_line c.mac) l1 (capacity_line c.capacity ∷ start_line c.start ∷ drop_line c.drop_802_3 ∷ deny_line c.deny ∷ map event_line c.events) (l2 ∷ l3 ∷ l4 ∷ later) t0 in
    let h2 = cons_head (capacity_line c.capacity) l2 (start_line c.start ∷ drop_line c.drop_802_3 ∷ deny_line c.deny ∷ map event_line c.events) (l3 ∷ l4 ∷ later) t1 in
    let t2 = cons_tail (capacity_line c.capacity) l2 (start_line c.start ∷ drop_line c.drop_802_3 ∷ deny_line c.deny ∷ map event_line c.events) (l3 ∷ l4 ∷ later) t1 in
    let h3 = cons_head (start_line c.start) l3 (drop_line c.drop_802_3 ∷ deny_line c.deny ∷ map event_line c.events) (l4 ∷ later) t2 in
    let t3 = cons_tail (start_line c.start) l3 (drop_line c.drop_802_3 ∷ deny_line c.deny ∷ map event_line c.events) (l4 ∷ later) t2 in
    let h4 = cons_head (drop_line c.drop_802_3) l4 (deny_line c.deny ∷ map event_line c.events) (later) t3 in
    let t4 = cons_tail (drop_line c.drop_802_3) l4 (deny_line c.deny ∷ map event_line c.events) (later) t3 in
    rw (read_version c l0 h (sym h0), read_mac c l1 h (sym h1), read_capacity c l2 h (sym h2), read_start c l3 h (sym h3), read_dropped c l4 h (sym h4), stop) refl
six_stops c E ((n0, l0) ∷ (n1, l1) ∷ (n2, l2) ∷ (n3, l3) ∷ (n4, l4) ∷ (n5, l5) ∷ more) tail later err h e few stop = absurd (omega arith)

stops_end : (place E : ℕ) → place < 6 → StopsAt place E [] (Bad E End)
stops_end zero E lt = refl
stops_end (suc zero) E lt = refl
stops_end (suc (suc zero)) E lt = refl
stops_end (suc (suc (suc zero))) E lt = refl
stops_end (suc (suc (suc (suc zero)))) E lt = refl
stops_end (suc (suc (suc (suc (suc zero))))) E lt = refl
stops_end (suc (suc (suc (suc (suc (suc place)))))) E lt = absurd (omega arith)

stops_form : (place E n : ℕ) (line : List ℕ) (after : Kept) → place < 6 → (IsOfForm place line → ⊥) → StopsAt place E ((n, line) ∷ after) (Bad n Form)
stops_form zero E n line after lt refused = rw (exact-refused _ (version_read line) (version_read line) (version_exact line) refl (λ v s. refused s)) refl
stops_form (suc zero) E n line after lt refused = rw (exact-refused _ (mac_read line) (mac_read line) (mac_line_exact line) refl (λ v s. refused (v, s.0, s.1))) refl
stops_form (suc (suc zero)) E n line after lt refused = rw (exact-refused _ (capacity_read line) (capacity_read line) (capacity_line_exact line) refl (λ v s. refused (v, s.0, s.1))) refl
stops_form (suc (suc (suc zero))) E n line after lt refused = rw (exact-refused _ (start_read line) (start_read line) (start_line_exact line) refl (λ v s. refused (v, s.0, s.1))) refl
stops_form (suc (suc (suc (suc zero)))) E n line after lt refused = rw (exact-refused _ (drop_read line) (drop_read line) (drop_line_exact line) refl (λ v s. refused (v, s))) refl
stops_form (suc (suc (suc (suc (suc zero))))) E n line after lt refused = rw (exact-refused _ (deny_read line) (deny_read line) (deny_line_exact line) refl (λ v s. refused (v, s.0, s.1))) refl
stops_form (suc (suc (suc (suc (suc (suc place)))))) E n line after lt refused = absurd (omega arith)

stopped_by_six : (E : ℕ) (lines : Kept) (err : ScriptError) → first_six E lines ≡ Err err → contents_from E lines ≡ Err err
unfolding contents_from
stopped_by_six E lines err e = rw e refl

-- lines that are a front of those of events
record Front (events : List Timed) (xs : List (List ℕ)) : Type 0 where
  taken : List Timed
  left : List Timed
  events_are : events ≡ taken ++ left
  spelled : xs ≡ map event_line taken

front_of : (events : List Timed) (xs ys : List (List ℕ)) → map event_line events ≡ xs ++ ys → Front events xs
front_of events [] ys e = record { taken = []; left = events; events_are = refl; spelled = refl }
front_of [] (x ∷ xs) ys e = absurd cc
front_of (e ∷ events) (x ∷ xs) ys h =
    let more = front_of events xs ys (cons_tail (event_line e) x (map event_line events) (xs ++ ys) h) in
    record { taken = e ∷ more.taken; left = more.left; events_are = ap (λ (es : List Timed). e ∷ es) more.events_are; spelled = ap (λ (t : List ℕ). t ∷ xs) (sym (cons_head (event_line e) x (map event_line events) (xs ++ ys) h)) ∙ ap (λ (ts : List (List ℕ)). event_line e ∷ ts) more.spelled }

front_read : (c : Contents) (before : Kept) → IsSoundScript c → (f : Front c.events (texts before)) → EventsAre c.start before f.taken
front_read c before s f =
    let fit = subst (λ (es : List Timed). AllByRecursion IsEvent es) f.events_are (recursion_from_All IsEvent c.events s.events) in
    let chain = subst (Chain c.start) f.events_are (in_order_chain c.start c.events s.order) in
    record { fit = all_front IsEvent f.taken f.left fit; chain = chain_front c.start f.taken f.left chain; spelled = f.spelled }

event_stops : (latest n : ℕ) (line : List ℕ) (after : Kept) (es : List Timed) (err : ScriptError) → event_answer latest (n, line) ≡ Err err → with_events es (events_from latest ((n, line) ∷ after)) ≡ Err err
unfolding events_from
event_stops latest n line after es err e = ap (λ (r : Result Timed ScriptError). with_events es (r >>> λ e. with_events (e ∷ []) (events_from e.time after))) e

-- six lines, lines of events, and one that isn't taken
stopped_by_event : (c : Contents) (E : ℕ) (six before tail rest : Kept) (n : ℕ) (line : List ℕ) (after : Kept) (es : List Timed) (err : ScriptError)
    → first_six E six ≡ Ok (head c, rest) → rest ≡ before ++ (n, line) ∷ after → EventsAre c.start before es → event_answer (last_time c.start es) (n, line) ≡ Err err → contents_from E six ≡ Err err
unfolding contents_from
stopped_by_event c E six before tail rest n line after es err read split events e =
    let stop : events_from c.start rest ≡ Err err = ap (events_from c.start) split ∙ events_on c.start before ((n, line) ∷ after) es events ∙ event_stops (last_time c.start es) n line after es err e in
    rw (read, stop) refl

form_again : (c : Contents) (E : ℕ) (before : Kept) (n : ℕ) (line : List ℕ) (after : Kept) (later : List (List ℕ)) → IsSoundScript c → lines_saying c ≡ texts before ++ later → (IsOfForm (length before) line → ⊥) → contents_from E (before ++ (n, line) ∷ after) ≡ Err (Bad n Form)
form_again c E [] n line after later s e refused = stopped_by_six E ([] ++ (n, line) ∷ after) (Bad n Form) (six_stops c E [] ((n, line) ∷ after) later (Bad n Form) (sound_head c s) e (omega arith) (stops_form 0 E n line after (omega arith) refused))
form_again c E ((n0, l0) ∷ []) n line after later s e refused = stopped_by_six E (((n0, l0) ∷ []) ++ (n, line) ∷ after) (Bad n Form) (six_stops c E ((n0, l0) ∷ []) ((n, line) ∷ after) later (Bad n Form) (sound_head c s) e (omega arith) (stops_form 1 E n line after (omega arith) refused))
form_again c E ((n0, l0) ∷ (n1, l1) ∷ []) n line after later s e refused = stopped_by_six E (((n0, l0) ∷ (n1, l1) ∷ []) ++ (n, line) ∷ after) (Bad n Form) (six_stops c E ((n0, l0) ∷ (n1, l1) ∷ []) ((n, line) ∷ after) later (Bad n Form) (sound_head c s) e (omega arith) (stops_form 2 E n line after (omega arith) refused))
form_again c E ((n0, l0) ∷ (n1, l1) ∷ (n2, l2) ∷ []) n line after later s e refused = stopped_by_six E (((n0, l0) ∷ (n1, l1) ∷ (n2, l2) ∷ []) ++ (n, line) ∷ after) (Bad n Form) (six_stops c E ((n0, l0) ∷ (n1, l1) ∷ (n2, l2) ∷ []) ((n, line) ∷ after) later (Bad n Form) (sound_head c s) e (omega arith) (stops_form 3 E n line after (omega arith) refused))
form_again c E ((n0, l0) ∷ (n1, l1) ∷ (n2, l2) ∷ (n3, l3) ∷ []) n line after later s e refused = stopped_by_six E (((n0, l0) ∷ (n1, l1) ∷ (n2, l2) ∷ (n3, l3) ∷ []) ++ (n, line) ∷ after) (Bad n Form) (six_stops c E ((n0, l0) ∷ (n1, l1) ∷ (n2, l2) ∷ (n3, l3) ∷ []) ((n, line) ∷ after) later (Bad n Form) (sound_head c s) e (omega arith) (stops_form 4 E n line after (omega arith) refused))
form_again c E ((n0, l0) ∷ (n1, l1) ∷ (n2, l2) ∷ (n3, l3) ∷ (n4, l4) ∷ []) n line after later s e refused = stopped_by_six E (((n0, l0) ∷ (n1, l1) ∷ (n2, l2) ∷ (n3, l3) ∷ (n4, l4) ∷ []) ++ (n, line) ∷ after) (Bad n Form) (six_stops c E ((n0, l0) ∷ (n1, l1) ∷ (n2, l2) ∷ (n3, l3) ∷ (n4, l4) ∷ []) ((n, line) ∷ after) later (Bad n Form) (sound_head c s) e (omega arith) (stops_form 5 E n line after (omega arith) refused))
form_again c E ((n0, l0) ∷ (n1, l1) ∷ (n2, l2) ∷ (n3, l3) ∷ (n4, l4) ∷ (n5, l5) ∷ more) n line after later s e refused =
    let h0 = cons_head (version_line) l0 (mac_line c.mac ∷ capacity_line c.capacity ∷ start_line c.start ∷ drop_line c.drop_802_3 ∷ deny_line c.deny ∷ map event_line c.events) (l1 ∷ l2 ∷ l3 ∷ l4 ∷ l5 ∷ (texts more ++ later)) e in
    let t0 = cons_tail (version_line) l0 (mac_line c.mac ∷ capacity_line c.capacity ∷ start_line c.start ∷ drop_line c.drop_802_3 ∷ deny_line c.deny ∷ map event_line c.events) (l1 ∷ l2 ∷ l3 ∷ l4 ∷ l5 ∷ (texts more ++ later)) e in
    let h1 = cons_head (mac_line c.mac) l1 (capacity_line c.capacity ∷ start_line c.start ∷ drop_line c.drop_802_3 ∷ deny_line c.deny ∷ map event_line c.events) (l2 ∷ l3 ∷ l4 ∷ l5 ∷ (texts more ++ later)) t0 in
    let t1 = cons_tail (mac_line c.mac) l1 (capacity_line c.capacity ∷ start_line c.start ∷ drop_line c.drop_802_3 ∷ deny_line c.deny ∷ map event_line c.events) (l2 ∷ l3 ∷ l4 ∷ l5 ∷ (texts more ++ later)) t0 in
    let h2 = cons_head (capacity_line c.capacity) l2 (start_line c.start ∷ drop_line c.drop_802_3 ∷ deny_line c.deny ∷ map event_line c.events) (l3 ∷ l4 ∷ l5 ∷ (texts more ++ later)) t1 in
    let t2 = cons_tail (capacity_line c.capacity) l2 (start_line c.start ∷ drop_line c.drop_802_3 ∷ deny_line c.deny ∷ map event_line c.events) (l3 ∷ l4 ∷ l5 ∷ (texts more ++ later)) t1 in
    let h3 = cons_head (start_line c.start) l3 (drop_line c.drop_802_3 ∷ deny_line c.deny ∷ map event_line c.events) (l4 ∷ l5 ∷ (texts more ++ later)) t2 in
    let t3 = cons_tail (start_line c.start) l3 (drop_line c.drop_802_3 ∷ deny_line c.deny ∷ map event_line c.events) (l4 ∷ l5 ∷ (texts more ++ later)) t2 in
    let h4 = cons_head (drop_line c.drop_802_3) l4 (deny_line c.deny ∷ map event_line c.events) (l5 ∷ (texts more ++ later)) t3 in
    let t4 = cons_tail (drop_line c.drop_802_3) l4 (deny_line c.deny ∷ map event_line c.events) (l5 ∷ (texts more ++ later)) t3 in
    let h5 = cons_head (deny_line c.deny) l5 (map event_line c.events) ((texts more ++ later)) t4 in
    let t5 = cons_tail (deny_line c.deny) l5 (map event_line c.events) ((texts more ++ later)) t4 in
    let f = front_of c.events (texts more) later t5 in
    stopped_by_event c E ((n0, l0) ∷ (n1, l1) ∷ (n2, l2) ∷ (n3, l3) ∷ (n4, l4) ∷ (n5, l5) ∷ (more ++ (n, line) ∷ after)) more [] (more ++ (n, line) ∷ after) n line after f.taken (Bad n Form)
    (six_on c E n0 n1 n2 n3 n4 n5 l0 l1 l2 l3 l4 l5 (more ++ (n, line) ∷ after) (sound_head c s) (sym h0) (sym h1) (sym h2) (sym h3) (sym h4) (sym h5))
    refl (front_read c more s f) (event_form (last_time c.start f.taken) n line (λ x t. refused (x, t.0, t.1)))

order_again : (c : Contents) (E : ℕ) (before : Kept) (n : ℕ) (line : List ℕ) (after : Kept) (x : Timed) → IsSoundScript c → texts before ≡ lines_saying c → IsEvent x → line ≡ event_line x → x.time < last_time c.start c.events → contents_from E (before ++ (n, line) ∷ after) ≡ Err (Bad n Order)
order_again c E before n line after x s e fit spelled late =
    let six = six_of c E before ((n, line) ∷ after) (map event_line c.events) (sound_head c s) e in
    stopped_by_event c E (before ++ (n, line) ∷ after) six.0 [] (six.0 ++ (n, line) ∷ after) n line after c.events (Bad n Order)
    six.1 refl (events_of c six.0 s six.2) (event_order (last_time c.start c.events) n line x fit spelled late)

end_again : (c : Contents) (E : ℕ) (lines : Kept) (later : List (List ℕ)) → IsSoundScript c → lines_saying c ≡ texts lines ++ later → length lines < 6 → contents_from E lines ≡ Err (Bad E End)
end_again c E lines later s e few =
    stopped_by_six E lines (Bad E End) (sym (ap (first_six E) (append-nil lines)) ∙ six_stops c E lines [] later (Bad E End) (sound_head c s) e few (stops_end (length lines) E few))

pub refused_again : (text : List ℕ) (n : ℕ) (k : ScriptKind) → ScriptRefuses text n k → script_answer text ≡ Err (Bad n k)
refused_again text n Form r =
    let begun = r.fault.0 in
    let at_end : ℕ = length (lines_of text) + 1 in
    ap (contents_from at_end) r.lines_are
    ∙ form_again begun.script at_end r.before n r.line r.after begun.later begun.sound begun.lines_are (λ form. r.fault.1 (subst (λ (k : ℕ). IsOfForm k r.line) (sym (length-texts r.before)) form))
refused_again text n Order r =
    let f = r.fault in
    let c = f.0 in
    let at_end : ℕ = length (lines_of text) + 1 in
    ap (contents_from at_end) r.lines_are
    ∙ order_again c at_end r.before n r.line r.after f.1 f.2 f.3 f.4 f.5 (late_again c.start c.events f.1 (in_order_chain c.start c.events f.2.order) f.6)
refused_again text n End r =
    let at_end : ℕ = length (lines_of text) + 1 in
    end_again r.begun.script at_end (kept_lines text) r.begun.later r.begun.sound r.begun.lines_are r.few ∙ ap (λ (k : ℕ). Err (Bad k End)) (sym r.number_is)
