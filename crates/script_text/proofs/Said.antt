-- What the grammar says of a text that is a script is what the function that computes says.
use Rattle.std.proofs.Common.{◌≡◌, ℕ, ◌+◌, List, [], ◌∷◌, ◌++◌, length, Ok, refl, sym, ap, subst, ◌∙◌, arith}
use Rattle.std.specs.Prelude.{map}
use Rattle.std.specs.List.{AllByRecursion}
use Rattle.std.proofs.lemmas.List.{append-nil}
use Rattle.std.proofs.lemmas.List.Elements.{All-from_recursion, recursion_from_All}
use Rattle.policy_state.specs.declared.basis.Timed.{Timed}
use Rattle.script_text.specs.declared.script_error.ScriptError.{ScriptError}
use Rattle.plain_text.specs.Lines.{lines_of}
use Rattle.script_text.specs.ScriptLines.{Contents, version_line, mac_line, capacity_line, start_line, drop_line, deny_line, event_line, first_lines, lines_saying, IsEvent, kept_lines}
use Rattle.script_text.specs.Scripts.{IsSoundScript, Says}
use Rattle.script_text.specs.ScriptReading.{first_six, with_events, events_from, contents_from, script_answer}
use Rattle.script_text.proofs.Grammar.{Kept, texts, Chain, last_time, chain_in_order, in_order_chain, bind_okay, ok_inj, cons_head, cons_tail, EventsAre, events_is, events_on, Head, head, sound_head, six_on, six_is}

-- what the first lines say, and events
abbrev pub whole : Contents → List Timed → Contents
whole h es = record { mac = h.mac; capacity = h.capacity; start = h.start; drop_802_3 = h.drop_802_3; deny = h.deny; events = es }

pub sound_whole : (h : Contents) (es : List Timed) → Head h → AllByRecursion IsEvent es → Chain h.start es → IsSoundScript (whole h es)
sound_whole h es r fit chain = record { mac = r.mac; capacity = r.capacity; start = r.start; deny = r.deny; events = All-from_recursion IsEvent es fit; order = chain_in_order h.start es chain }

pub texts-append : (a b : Kept) → texts (a ++ b) ≡ texts a ++ texts b
texts-append [] b = refl
texts-append (l ∷ a) b = ap (λ (ts : List (List ℕ)). l.1 ∷ ts) (texts-append a b)

pub says_found : (text : List ℕ) (c : Contents) → script_answer text ≡ Ok c → Says text c
unfolding contents_from
says_found text c e =
    let at_end : ℕ = length (lines_of text) + 1 in
    let p = bind_okay (first_six at_end (kept_lines text)) _ c e in
    let six = six_is at_end (kept_lines text) p.0.0 p.0.1 p.1 in
    let q = bind_okay (events_from p.0.0.start p.0.1) _ c p.2 in
    let read = events_is p.0.0.start p.0.1 q.0 q.1 in
    let same = ok_inj {A = Contents} {E = ScriptError} (whole p.0.0 q.0) c q.2 in
    subst (Says text) same (record {
      sound = sound_whole p.0.0 q.0 six.ranges read.fit read.chain;
      lines = ap texts six.lines_are ∙ texts-append six.front p.0.1 ∙ ap (λ (ts : List (List ℕ)). ts ++ texts p.0.1) six.spelled ∙ ap (λ (ts : List (List ℕ)). first_lines p.0.0 ++ ts) read.spelled;
    })

-- the first six lines are read, and others follow
pub six_of : (c : Contents) (E : ℕ) (lines after : Kept) (later : List (List ℕ)) → Head c → texts lines ≡ first_lines c ++ later → (rest : Kept) × (first_six E (lines ++ after) ≡ Ok (head c, rest ++ after)) × (texts rest ≡ later)
six_of c E [] after later h e = absurd (let sizes = ap length e in omega arith)
six_of c E ((n0, l0) ∷ []) after later h e = absurd (let sizes = ap length e in omega arith)
six_of c E ((n0, l0) ∷ (n1, l1) ∷ []) after later h e = absurd (let sizes = ap length e in omega arith)
six_of c E ((n0, l0) ∷ (n1, l1) ∷ (n2, l2) ∷ []) after later h e = absurd (let sizes = ap length e in omega arith)
six_of c E ((n0, l0) ∷ (n1, l1) ∷ (n2, l2) ∷ (n3, l3) ∷ []) after later h e = absurd (let sizes = ap length e in omega arith)
six_of c E ((n0, l0) ∷ (n1, l1) ∷ (n2, l2) ∷ (n3, l3) ∷ (n4, l4) ∷ []) after later h e = absurd (let sizes = ap length e in omega arith)
six_of c E ((n0, l0) ∷ (n1, l1) ∷ (n2, l2) ∷ (n3, l3) ∷ (n4, l4) ∷ (n5, l5) ∷ rest) after later h e =
    let h0 = cons_head l0 (version_line) (l1 ∷ l2 ∷ l3 ∷ l4 ∷ l5 ∷ texts rest) (mac_line c.mac ∷ capacity_line c.capacity ∷ start_line c.start ∷ drop_line c.drop_802_3 ∷ deny_line c.deny ∷ later) e in
    let t0 = cons_tail l0 (version_line) (l1 ∷ l2 ∷ l3 ∷ l4 ∷ l5 ∷ texts rest) (mac_line c.mac ∷ capacity_line c.capacity ∷ start_line c.start ∷ drop_line c.drop_802_3 ∷ deny_line c.deny ∷ later) e in
    let h1 = cons_head l1 (mac_line c.mac) (l2 ∷ l3 ∷ l4 ∷ l5 ∷ texts rest) (capacity_line c.capacity ∷ start_line c.start ∷ drop_line c.drop_802_3 ∷ deny_line c.deny ∷ later) t0 in
    let t1 = cons_tail l1 (mac_line c.mac) (l2 ∷ l3 ∷ l4 ∷ l5 ∷ texts rest) (capacity_line c.capacity ∷ start_line c.start ∷ drop_line c.drop_802_3 ∷ deny_line c.deny ∷ later) t0 in
    let h2 = cons_head l2 (capacity_line c.capacity) (l3 ∷ l4 ∷ l5 ∷ texts rest) (start_line c.start ∷ drop_line c.drop_802_3 ∷ deny_line c.deny ∷ later) t1 in
    let t2 = cons_tail l2 (capacity_line c.capacity) (l3 ∷ l4 ∷ l5 ∷ texts rest) (start_line c.start ∷ drop_line c.drop_802_3 ∷ deny_line c.deny ∷ later) t1 in
    let h3 = cons_head l3 (start_line c.start) (l4 ∷ l5 ∷ texts rest) (drop_line c.drop_802_3 ∷ deny_line c.deny ∷ later) t2 in
    let t3 = cons_tail l3 (start_line c.start) (l4 ∷ l5 ∷ texts rest) (drop_line c.drop_802_3 ∷ deny_line c.deny ∷ later) t2 in
    let h4 = cons_head l4 (drop_line c.drop_802_3) (l5 ∷ texts rest) (deny_line c.deny ∷ later) t3 in
    let t4 = cons_tail l4 (drop_line c.drop_802_3) (l5 ∷ texts rest) (deny_line c.deny ∷ later) t3 in
    let h5 = cons_head l5 (deny_line c.deny) (texts rest) (later) t4 in
    let t5 = cons_tail l5 (deny_line c.deny) (texts rest) (later) t4 in
    (rest, six_on c E n0 n1 n2 n3 n4 n5 l0 l1 l2 l3 l4 l5 (rest ++ after) h h0 h1 h2 h3 h4 h5, t5)

pub events_of : (c : Contents) (lines : Kept) → IsSoundScript c → texts lines ≡ map event_line c.events → EventsAre c.start lines c.events
events_of c lines s e = record { fit = recursion_from_All IsEvent c.events s.events; chain = in_order_chain c.start c.events s.order; spelled = e }

ended_events : (latest : ℕ) (es : List Timed) → with_events es (events_from latest []) ≡ Ok es
unfolding events_from
ended_events latest es = ap Ok (append-nil es)

contents_again : (c : Contents) (E : ℕ) (lines : Kept) → IsSoundScript c → texts lines ≡ lines_saying c → contents_from E lines ≡ Ok c
unfolding contents_from
contents_again c E lines s e =
    let six = six_of c E lines [] (map event_line c.events) (sound_head c s) e in
    let six_read : first_six E lines ≡ Ok (head c, six.0) = sym (ap (first_six E) (append-nil lines)) ∙ six.1 ∙ ap (λ (r : Kept). Ok (head c, r)) (append-nil six.0) in
    let events = events_on c.start six.0 [] c.events (events_of c six.0 s six.2) in
    let events_read : events_from c.start six.0 ≡ Ok c.events = sym (ap (events_from c.start) (append-nil six.0)) ∙ events ∙ ended_events (last_time c.start c.events) c.events in
    rw (six_read, events_read) refl

pub says_again : (text : List ℕ) (c : Contents) → Says text c → script_answer text ≡ Ok c
says_again text c s = contents_again c (length (lines_of text) + 1) (kept_lines text) s.sound s.lines
