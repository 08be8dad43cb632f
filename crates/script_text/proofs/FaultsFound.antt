-- The fault that the function that computes finds is the first one.
use Rattle.std.proofs.Common.{◌≡◌, ℕ, suc, ◌+◌, ◌<◌, Bool, false, List, [], ◌∷◌, ◌++◌, length, Option, None, Err, refl, sym, ap, subst, ◌∙◌, append_assoc, arith, inl, inr}
use Rattle.std.specs.Prelude.{map, ◌⊎◌}
use Rattle.std.proofs.lemmas.List.{append-nil}
use Rattle.policy_state.specs.declared.basis.Timed.{Timed}
use Rattle.script_text.specs.declared.script_error.ScriptError.{ScriptError}
use Rattle.script_text.specs.declared.script_error.ScriptError.TheVariants.{Bad, OutOfMemory}
use Rattle.script_text.specs.declared.script_error.ScriptKind.{ScriptKind}
use Rattle.script_text.specs.declared.script_error.ScriptKind.TheVariants.{Form, End}
use Rattle.plain_text.specs.Lines.{lines_of}
use Rattle.policy_state.specs.Ranges.{IsMac}
use Rattle.script_text.specs.ScriptLines.{Contents, version_line, mac_line, capacity_line, start_line, drop_line, deny_line, event_line, first_lines, lines_saying, IsCapacity, IsDeny, IsWordNumber, IsEvent, kept_lines}
use Rattle.script_text.specs.Scripts.{IsSoundScript}
use Rattle.script_text.specs.ScriptFaults.{IsOfForm, BeginsScript, ScriptRefuses}
use Rattle.script_text.specs.ScriptReading.{first, first_six, events_from, contents_from, script_answer, version_read, mac_read, capacity_read, start_read, drop_read, deny_read}
use Rattle.script_text.proofs.Exactness.{exact-none_spelled}
use Rattle.script_text.proofs.DigitWords.{bytes-cons}
use Rattle.script_text.proofs.LineWords.{version_exact, mac_line_exact, capacity_line_exact, start_line_exact, drop_line_exact, deny_line_exact}
use Rattle.script_text.proofs.Grammar.{Kept, texts, late_is, bind_failed, first_is, first_fails, EventsAre, EventsFail, events_fail, Head, six_is}
use Rattle.script_text.proofs.Said.{whole, sound_whole, texts-append}
use Rattle.policy_state.specs.Limits.{capacity_least}

-- ---- faults of the first six lines, found

zeros : List ℕ
zeros = 0 ∷ 0 ∷ 0 ∷ 0 ∷ 0 ∷ 0 ∷ []

zeros_mac : IsMac zeros
unfolding zeros
zeros_mac = record { six = refl; bytes = bytes-cons 0 (0 ∷ 0 ∷ 0 ∷ 0 ∷ 0 ∷ []) (omega arith) (bytes-cons 0 (0 ∷ 0 ∷ 0 ∷ 0 ∷ []) (omega arith) (bytes-cons 0 (0 ∷ 0 ∷ 0 ∷ []) (omega arith) (bytes-cons 0 (0 ∷ 0 ∷ []) (omega arith) (bytes-cons 0 (0 ∷ []) (omega arith) (bytes-cons 0 [] (omega arith) (λ k. omega arith)))))) }

least_capacity : IsCapacity capacity_least
least_capacity = record { least = omega arith; most = omega arith }

nothing_denied : IsDeny []
nothing_denied = record { few = omega arith; fit = λ k d lt. omega arith }

-- a script without events
abbrev plain : List ℕ → ℕ → ℕ → Bool → List ℕ → Contents
plain mac capacity start dropped deny = record { mac = mac; capacity = capacity; start = start; drop_802_3 = dropped; deny = deny; events = [] }

plain_sound : (mac : List ℕ) (capacity start : ℕ) (dropped : Bool) (deny : List ℕ) → IsMac mac → IsCapacity capacity → IsWordNumber start → IsDeny deny → IsSoundScript (plain mac capacity start dropped deny)
plain_sound mac capacity start dropped deny a b c d = sound_whole (plain mac capacity start dropped deny) [] (record { mac = a; capacity = b; start = c; deny = d }) tt tt

begins_version : BeginsScript ([])
begins_version = record { script = plain zeros capacity_least 0 false ([]); sound = plain_sound zeros capacity_least 0 false ([]) zeros_mac least_capacity (omega arith) nothing_denied; later = version_line ∷ mac_line zeros ∷ capacity_line capacity_least ∷ start_line 0 ∷ drop_line false ∷ deny_line [] ∷ []; lines_are = refl }

begins_mac : (l0 : List ℕ) → l0 ≡ version_line → BeginsScript (l0 ∷ [])
begins_mac l0 e0 = record { script = plain zeros capacity_least 0 false ([]); sound = plain_sound zeros capacity_least 0 false ([]) zeros_mac least_capacity (omega arith) nothing_denied; later = mac_line zeros ∷ capacity_line capacity_least ∷ start_line 0 ∷ drop_line false ∷ deny_line [] ∷ []; lines_are = rw e0 refl }

begins_capacity : (mac : List ℕ) (l0 l1 : List ℕ) → IsMac mac → l0 ≡ version_line → l1 ≡ mac_line mac → BeginsScript (l0 ∷ l1 ∷ [])
begins_capacity mac l0 l1 r1 e0 e1 = record { script = plain mac capacity_least 0 false ([]); sound = plain_sound mac capacity_least 0 false ([]) r1 least_capacity (omega arith) nothing_denied; later = capacity_line capacity_least ∷ start_line 0 ∷ drop_line false ∷ deny_line [] ∷ []; lines_are = rw (e0, e1) refl }

begins_start : (mac : List ℕ) (capacity : ℕ) (l0 l1 l2 : List ℕ) → IsMac mac → IsCapacity capacity → l0 ≡ version_line → l1 ≡ mac_line mac → l2 ≡ capacity_line capacity → BeginsScript (l0 ∷ l1 ∷ l2 ∷ [])
begins_start mac capacity l0 l1 l2 r1 r2 e0 e1 e2 = record { script = plain mac capacity 0 false ([]); sound = plain_sound mac capacity 0 false ([]) r1 r2 (omega arith) nothing_denied; later = start_line 0 ∷ drop_line false ∷ deny_line [] ∷ []; lines_are = rw (e0, e1, e2) refl }

begins_dropped : (mac : List ℕ) (capacity : ℕ) (start : ℕ) (l0 l1 l2 l3 : List ℕ) → IsMac mac → IsCapacity capacity → IsWordNumber start → l0 ≡ version_line → l1 ≡ mac_line mac → l2 ≡ capacity_line capacity → l3 ≡ start_line start → BeginsScript (l0 ∷ l1 ∷ l2 ∷ l3 ∷ [])
begins_dropped mac capacity start l0 l1 l2 l3 r1 r2 r3 e0 e1 e2 e3 = record { script = plain mac capacity start false ([]); sound = plain_sound mac capacity start false ([]) r1 r2 r3 nothing_denied; later = drop_line false ∷ deny_line [] ∷ []; lines_are = rw (e0, e1, e2, e3) refl }

begins_deny : (mac : List ℕ) (capacity : ℕ) (start : ℕ) (dropped : Bool) (l0 l1 l2 l3 l4 : List ℕ) → IsMac mac → IsCapacity capacity → IsWordNumber start → l0 ≡ version_line → l1 ≡ mac_line mac → l2 ≡ capacity_line capacity → l3 ≡ start_line start → l4 ≡ drop_line dropped → BeginsScript (l0 ∷ l1 ∷ l2 ∷ l3 ∷ l4 ∷ [])
begins_deny mac capacity start dropped l0 l1 l2 l3 l4 r1 r2 r3 e0 e1 e2 e3 e4 = record { script = plain mac capacity start dropped ([]); sound = plain_sound mac capacity start dropped ([]) r1 r2 r3 nothing_denied; later = deny_line [] ∷ []; lines_are = rw (e0, e1, e2, e3, e4) refl }

pub length-texts : (lines : Kept) → length (texts lines) ≡ length lines
length-texts [] = refl
length-texts (l ∷ lines) = ap suc (length-texts lines)

record HeadFault (E : ℕ) (lines : Kept) (err : ScriptError) : Type 0 where
  before : Kept
  tail : Kept
  lines_are : lines ≡ before ++ tail
  few : length before < 6
  begins : BeginsScript (texts before)
  cause : ((tail ≡ []) × (err ≡ Bad E End)) ⊎ ((n : ℕ) × (line : List ℕ) × (after : Kept) × (tail ≡ (n, line) ∷ after) × (err ≡ Bad n Form) × (IsOfForm (length before) line → ⊥))

head_fault : {A : Type 0} (read : List ℕ → Option A) (E : ℕ) (lines before tail : Kept) (err : ScriptError) → lines ≡ before ++ tail → length before < 6 → BeginsScript (texts before)
    → ((line : List ℕ) → read line ≡ None → IsOfForm (length before) line → ⊥) → first read E tail ≡ Err err → HeadFault E lines err
head_fault read E lines before tail err split few begins form e = record {
  before = before;
  tail = tail;
  lines_are = split;
  few = few;
  begins = begins;
  cause = elim (first_fails read E tail err e) [
    | inl h ↦ inl h
    | inr h ↦ inr (h.0, h.1, h.2, h.3, h.4, form h.1 h.5)
  ];
}

no_version : (line : List ℕ) → version_read line ≡ None → IsOfForm 0 line → ⊥
no_version line none form = exact-none_spelled _ (version_read line) (version_exact line) none tt form

no_mac : (line : List ℕ) → mac_read line ≡ None → IsOfForm 1 line → ⊥
no_mac line none form = exact-none_spelled _ (mac_read line) (mac_line_exact line) none form.0 (form.1, form.2)

no_capacity : (line : List ℕ) → capacity_read line ≡ None → IsOfForm 2 line → ⊥
no_capacity line none form = exact-none_spelled _ (capacity_read line) (capacity_line_exact line) none form.0 (form.1, form.2)

no_start : (line : List ℕ) → start_read line ≡ None → IsOfForm 3 line → ⊥
no_start line none form = exact-none_spelled _ (start_read line) (start_line_exact line) none form.0 (form.1, form.2)

no_dropped : (line : List ℕ) → drop_read line ≡ None → IsOfForm 4 line → ⊥
no_dropped line none form = exact-none_spelled _ (drop_read line) (drop_line_exact line) none form.0 form.1

no_deny : (line : List ℕ) → deny_read line ≡ None → IsOfForm 5 line → ⊥
no_deny line none form = exact-none_spelled _ (deny_read line) (deny_line_exact line) none form.0 (form.1, form.2)

six_fails : (E : ℕ) (lines : Kept) (err : ScriptError) → first_six E lines ≡ Err err → HeadFault E lines err
unfolding first_six
six_fails E lines err e =
    elim (bind_failed (first version_read E lines) _ err e) [
      | inl f ↦ head_fault version_read E lines ([]) lines err (refl) (omega arith) (begins_version) no_version f
      | inr g0 ↦
          let f0 = first_is version_read E lines g0.0.0 g0.0.1 g0.1 in
          let s0 = (version_exact f0.line).found g0.0.0 f0.is in
          elim (bind_failed (first mac_read E g0.0.1) _ err g0.2) [
            | inl f ↦ head_fault mac_read E lines ((f0.number, f0.line) ∷ []) g0.0.1 err (f0.lines_are) (omega arith) (begins_mac f0.line s0) no_mac f
            | inr g1 ↦
                let f1 = first_is mac_read E g0.0.1 g1.0.0 g1.0.1 g1.1 in
                let s1 = (mac_line_exact f1.line).found g1.0.0 f1.is in
                elim (bind_failed (first capacity_read E g1.0.1) _ err g1.2) [
                  | inl f ↦ head_fault capacity_read E lines ((f0.number, f0.line) ∷ (f1.number, f1.line) ∷ []) g1.0.1 err (f0.lines_are ∙ ap (λ (t : Kept). (f0.number, f0.line) ∷ t) (f1.lines_are)) (omega arith) (begins_capacity g1.0.0 f0.line f1.line s1.0 s0 s1.1) no_capacity f
                  | inr g2 ↦
                      let f2 = first_is capacity_read E g1.0.1 g2.0.0 g2.0.1 g2.1 in
                      let s2 = (capacity_line_exact f2.line).found g2.0.0 f2.is in
                      elim (bind_failed (first start_read E g2.0.1) _ err g2.2) [
                        | inl f ↦ head_fault start_read E lines ((f0.number, f0.line) ∷ (f1.number, f1.line) ∷ (f2.number, f2.line) ∷ []) g2.0.1 err (f0.lines_are ∙ ap (λ (t : Kept). (f0.number, f0.line) ∷ t) (f1.lines_are ∙ ap (λ (t : Kept). (f1.number, f1.line) ∷ t) (f2.lines_are))) (omega arith) (begins_start g1.0.0 g2.0.0 f0.line f1.line f2.line s1.0 s2.0 s0 s1.1 s2.1) no_start f
                        | inr g3 ↦
                            let f3 = first_is start_read E g2.0.1 g3.0.0 g3.0.1 g3.1 in
                            let s3 = (start_line_exact f3.line).found g3.0.0 f3.is in
                            elim (bind_failed (first drop_read E g3.0.1) _ err g3.2) [
                              | inl f ↦ head_fault drop_read E lines ((f0.number, f0.line) ∷ (f1.number, f1.line) ∷ (f2.number, f2.line) ∷ (f3.number, f3.line) ∷ []) g3.0.1 err (f0.lines_are ∙ ap (λ (t : Kept). (f0.number, f0.line) ∷ t) (f1.lines_are ∙ ap (λ (t : Kept). (f1.number, f1.line) ∷ t) (f2.lines_are ∙ ap (λ (t : Kept). (f2.number, f2.line) ∷ t) (f3.lines_are)))) (omega arith) (begins_dropped g1.0.0 g2.0.0 g3.0.0 f0.line f1.line f2.line f3.line s1.0 s2.0 s3.0 s0 s1.1 s2.1 s3.1) no_dropped f
                              | inr g4 ↦
                                  let f4 = first_is drop_read E g3.0.1 g4.0.0 g4.0.1 g4.1 in
                                  let s4 = (drop_line_exact f4.line).found g4.0.0 f4.is in
                                  elim (bind_failed (first deny_read E g4.0.1) _ err g4.2) [
                                    | inl f ↦ head_fault deny_read E lines ((f0.number, f0.line) ∷ (f1.number, f1.line) ∷ (f2.number, f2.line) ∷ (f3.number, f3.line) ∷ (f4.number, f4.line) ∷ []) g4.0.1 err (f0.lines_are ∙ ap (λ (t : Kept). (f0.number, f0.line) ∷ t) (f1.lines_are ∙ ap (λ (t : Kept). (f1.number, f1.line) ∷ t) (f2.lines_are ∙ ap (λ (t : Kept). (f2.number, f2.line) ∷ t) (f3.lines_are ∙ ap (λ (t : Kept). (f3.number, f3.line) ∷ t) (f4.lines_are))))) (omega arith) (begins_deny g1.0.0 g2.0.0 g3.0.0 g4.0.0 f0.line f1.line f2.line f3.line f4.line s1.0 s2.0 s3.0 s0 s1.1 s2.1 s3.1 s4) no_deny f
                                    | inr g5 ↦
                                        absurd (let h = g5.2 in cc)
                                  ]
                            ]
                      ]
                ]
          ]
    ]

-- ---- faults, found

-- the events follow the six lines of a script
begins_events : (h : Contents) (es : List Timed) (front before : Kept) → Head h → texts front ≡ first_lines h → EventsAre h.start before es → texts (front ++ before) ≡ lines_saying (whole h es)
begins_events h es front before r six read = texts-append front before ∙ ap (λ (ts : List (List ℕ)). ts ++ texts before) six ∙ ap (λ (ts : List (List ℕ)). first_lines h ++ ts) read.spelled

-- behind six lines the form is an event's
form_behind : (a b c d e f : List ℕ) (more : List (List ℕ)) (all : List (List ℕ)) (line : List ℕ) → all ≡ a ∷ b ∷ c ∷ d ∷ e ∷ f ∷ more → IsOfForm (length all) line → (x : Timed) × IsEvent x × (line ≡ event_line x)
form_behind a b c d e f more all line same form = subst (λ (ts : List (List ℕ)). IsOfForm (length ts) line) same form

record EventsFault (E : ℕ) (lines : Kept) (err : ScriptError) : Type 0 where
  start : Contents
  rest : Kept
  front : Kept
  ranges : Head start
  six : texts front ≡ first_lines start
  split : lines ≡ front ++ rest
  fail : EventsFail start.start rest err

abbrev Refused : ℕ → Kept → ScriptError → Type 0
Refused E lines err = HeadFault E lines err ⊎ EventsFault E lines err

contents_fail : (E : ℕ) (lines : Kept) (err : ScriptError) → contents_from E lines ≡ Err err → Refused E lines err
unfolding contents_from
contents_fail E lines err e = elim (bind_failed (first_six E lines) _ err e) [
  | inl f ↦ inl (six_fails E lines err f)
  | inr g ↦
      let six = six_is E lines g.0.0 g.0.1 g.1 in
      elim (bind_failed (events_from g.0.0.start g.0.1) _ err g.2) [
        | inl f ↦ inr (record { start = g.0.0; rest = g.0.1; front = six.front; ranges = six.ranges; six = six.spelled; split = six.lines_are; fail = events_fail g.0.0.start g.0.1 err f })
        | inr h ↦ absurd (let k = h.2 in cc)
      ]
]

pub bad_parts : (n m : ℕ) (k j : ScriptKind) → ◌≡◌ {A = ScriptError} (Bad n k) (Bad m j) → (n ≡ m) × (k ≡ j)
bad_parts n m k j e = (cc, cc)

-- a fault has this number and kind
abbrev Stands : List ℕ → ScriptError → Type 0
Stands text (Bad n k) = ScriptRefuses text n k
Stands text OutOfMemory = ⊥

head_stands : (text : List ℕ) (err : ScriptError) → HeadFault (length (lines_of text) + 1) (kept_lines text) err → Stands text err
head_stands text err f = elim f.cause [
  | inl h ↦
      let whole_text : kept_lines text ≡ f.before = f.lines_are ∙ ap (λ (t : Kept). f.before ++ t) h.0 ∙ append-nil f.before in
      subst (Stands text) (sym h.1) (record {
        begun = subst (λ (t : Kept). BeginsScript (texts t)) (sym whole_text) f.begins;
        few = subst (λ (t : Kept). length t < 6) (sym whole_text) f.few;
        number_is = refl;
      })
  | inr h ↦ subst (Stands text) (sym h.4) (record {
    before = f.before;
    line = h.1;
    after = h.2;
    lines_are = f.lines_are ∙ ap (λ (t : Kept). f.before ++ t) h.3;
    fault = (f.begins, λ form. h.5 (subst (λ (k : ℕ). IsOfForm k h.1) (length-texts f.before) form));
  })
]

events_stand : (text : List ℕ) (err : ScriptError) → EventsFault (length (lines_of text) + 1) (kept_lines text) err → Stands text err
events_stand text err f =
    let l = f.fail in
    let c = whole f.start l.events in
    let sound = sound_whole f.start l.events f.ranges l.read.fit l.read.chain in
    let spelled : texts (f.front ++ l.before) ≡ lines_saying c = begins_events f.start l.events f.front l.before f.ranges f.six l.read in
    let split : kept_lines text ≡ (f.front ++ l.before) ++ (l.number, l.line) ∷ l.after = f.split ∙ ap (λ (t : Kept). f.front ++ t) l.lines_are ∙ sym (append_assoc f.front l.before ((l.number, l.line) ∷ l.after)) in
    elim l.fault [
      | inl h ↦ subst (Stands text) (sym h.0) (record {
        before = f.front ++ l.before;
        line = l.line;
        after = l.after;
        lines_are = split;
        fault = (
          record { script = c; sound = sound; later = []; lines_are = sym (append-nil (texts (f.front ++ l.before)) ∙ spelled) },
          λ form. let e = form_behind _ _ _ _ _ _ (map event_line l.events) (texts (f.front ++ l.before)) l.line spelled form in h.1 e.0 (e.1, e.2),
        );
      })
      | inr h ↦ subst (Stands text) (sym h.0) (record {
        before = f.front ++ l.before;
        line = l.line;
        after = l.after;
        lines_are = split;
        fault = (c, h.1.0, sound, spelled, h.1.1, h.1.2, late_is f.start.start l.events h.1.0 h.1.3);
      })
    ]

pub answer_stands : (text : List ℕ) (err : ScriptError) → script_answer text ≡ Err err → Stands text err
answer_stands text err e = elim (contents_fail (length (lines_of text) + 1) (kept_lines text) err e) [
  | inl f ↦ head_stands text err f
  | inr f ↦ events_stand text err f
]

pub refused_found : (text : List ℕ) (n : ℕ) (k : ScriptKind) → script_answer text ≡ Err (Bad n k) → ScriptRefuses text n k
refused_found text n k e = answer_stands text (Bad n k) e
