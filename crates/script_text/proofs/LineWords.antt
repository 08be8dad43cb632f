-- Lines that begin with a name are the texts of what they say.
use Rattle.std.proofs.Common.{◌≡◌, ℕ, ◌^◌, ◌<◌, ◌≤◌, Bool, true, false, cond, eqb, leb, List, [], ◌∷◌, ◌++◌, length, take, drop, Option, Some, None, refl, sym, ap, subst, ◌∙◌, arith}
use Rattle.std.specs.Prelude.{codes, map}
use Rattle.std.specs.Str.{bytes_eq}
use Rattle.std.specs.Fmt.{decimal}
use Rattle.std.specs.List.{join_with_byte, AllByRecursion}
use Rattle.std.proofs.lemmas.Bool.{eqb-true, leb-true, le-leb}
use Rattle.std.proofs.lemmas.List.{take_at, drop_at, take-append-drop}
use Rattle.std.proofs.lemmas.List.Elements.{All-from_recursion, recursion_from_All}
use Rattle.std.proofs.lemmas.Slice.Eq.{bytes_eq-Decides}
use Rattle.hex.specs.Hex.{encode_with}
use Rattle.apf_coding.specs.Reading.{◌>>=◌}
use Rattle.script_text.specs.Words.{mac_word, ethertype_word}
use Rattle.plain_text.proofs.Words.{equal_words}
use Rattle.plain_text.specs.Numbers.{WritesNumber}
use Rattle.script_text.specs.Spelling.{SpellsMac, SpellsEthertype}
use Rattle.plain_text.specs.Numbers.{number_within}
use Rattle.script_text.specs.WordReading.{mac_of, ethertype_of, byte_of, digit_of}
use Rattle.policy_state.specs.Ranges.{IsMac}
use Rattle.script_text.specs.ScriptLines.{switch_word, deny_word, version_line, mac_line, capacity_line, start_line, drop_line, deny_line, IsCapacity, IsDeny, IsWordNumber}
use Rattle.script_text.specs.ScriptReading.{behind, switch_of, ethertypes_of, few_of, deny_of, at_least, version_read, mac_read, capacity_read, start_read, drop_read, deny_read}
use Rattle.script_text.proofs.Exactness.{Exact, exact-same, bind_some, if_some, some_inj}
use Rattle.script_text.proofs.NumberWords.{number_exact}
use Rattle.script_text.proofs.DigitWords.{mac_exact, ethertype_exact}
use Rattle.script_text.proofs.DenyLists.{ethertypes_some}
use Rattle.policy_state.specs.Limits.{capacity_least, capacity_most, denied_most}

-- ---- texts that are compared

pub text_is : (a : List ℕ) → bytes_eq a a ≡ true
text_is a = (bytes_eq-Decides a a).1 refl

other_cases : (a b : List ℕ) (yes : Bool) → bytes_eq a b ≡ yes → (a ≡ b → ⊥) → yes ≡ false
other_cases a b true e other = absurd (other (equal_words a b e))
other_cases a b false e other = refl

pub text_is_other : (a b : List ℕ) → (a ≡ b → ⊥) → bytes_eq a b ≡ false
text_is_other a b other = other_cases a b (bytes_eq a b) refl other

-- ---- behind a prefix

pub behind_found : (front line rest : List ℕ) → behind front line ≡ Some rest → line ≡ front ++ rest
unfolding behind
behind_found front line rest e =
    let g = if_some (bytes_eq (take (length front) line) front) (Some (drop (length front) line)) rest e in
    let head = equal_words (take (length front) line) front g.0 in
    let tail = some_inj (drop (length front) line) rest g.1 in
    sym (take-append-drop (length front) line) ∙ ap (λ (t : List ℕ). t ++ drop (length front) line) head ∙ ap (λ (t : List ℕ). front ++ t) tail

pub behind-front : (front rest : List ℕ) → behind front (front ++ rest) ≡ Some rest
unfolding behind
behind-front front rest =
    rw (take_at front rest (length front) refl, text_is front, drop_at front rest (length front) refl) refl

pub behind_exact : {A : Type 0} (front line : List ℕ) (read : List ℕ → Option A) (T : A → Type 0) (text : A → List ℕ)
    → ((word : List ℕ) → Exact (read word) (λ v. T v × (word ≡ text v))) → Exact (behind front line >>= read) (λ v. T v × (line ≡ front ++ text v))
behind_exact front line read T text each = record {
  found = λ v e.
      let p = bind_some (behind front line) read v e in
      let s = (each p.0).found v p.2 in
      (s.0, behind_found front line p.0 p.1 ∙ ap (λ (t : List ℕ). front ++ t) s.1);
  only = λ v s.
      ap (λ (l : List ℕ). behind front l >>= read) s.1
      ∙ ap (λ (o : Option (List ℕ)). o >>= read) (behind-front front (text v))
      ∙ (each (text v)).only v (s.0, refl);
}

-- ---- the first six lines

version_of-line : version_read version_line ≡ Some tt
unfolding version_read
version_of-line = refl

pub version_exact : (line : List ℕ) → Exact (version_read line) (λ (v : Unit {0}). line ≡ version_line)
unfolding version_read
version_exact line = record {
  found = λ v e. equal_words line version_line (if_some (bytes_eq line version_line) (Some tt) v e).0;
  only = λ v s. ap version_read s ∙ version_of-line;
}

pub mac_line_exact : (line : List ℕ) → Exact (mac_read line) (λ mac. IsMac mac × (line ≡ mac_line mac))
unfolding mac_read
mac_line_exact line = behind_exact (codes "mac ") line mac_of IsMac mac_word (λ word. exact-same (SpellsMac word) _ (mac_of word) (mac_exact word)
    (λ mac s. (record { six = s.six; bytes = s.fit }, s.spelled))
    (λ mac t. record { six = t.0.six; fit = t.0.bytes; spelled = t.1 }))

at_least_is : (limit n m : ℕ) → at_least limit n ≡ Some m → (limit ≤ m) × (n ≡ m)
at_least_is limit n m e =
    let g = if_some (leb limit n) (Some n) m e in
    let same = some_inj n m g.1 in
    (subst (λ (k : ℕ). limit ≤ k) same (leb-true limit n g.0), same)

capacity_word_exact : (word : List ℕ) → Exact (number_within capacity_most word >>= at_least capacity_least) (λ n. IsCapacity n × (word ≡ decimal n))
capacity_word_exact word = record {
  found = λ n e.
      let p = bind_some (number_within capacity_most word) (at_least capacity_least) n e in
      let a = at_least_is capacity_least p.0 n p.2 in
      let s = (number_exact capacity_most word (omega arith)).found n (p.1 ∙ ap Some a.1) in
      (record { least = a.0; most = s.0 }, s.1);
  only = λ n t.
      let read = (number_exact capacity_most word (omega arith)).only n (t.0.most, t.1) in
      rw (read, le-leb capacity_least n t.0.least) refl;
}

pub capacity_line_exact : (line : List ℕ) → Exact (capacity_read line) (λ n. IsCapacity n × (line ≡ capacity_line n))
unfolding capacity_read
capacity_line_exact line = behind_exact (codes "capacity ") line (λ word. number_within capacity_most word >>= at_least capacity_least) IsCapacity decimal capacity_word_exact

-- a number of 32 bits
pub word_exact : (word : List ℕ) → Exact (number_within 4294967295 word) (λ n. IsWordNumber n × (word ≡ decimal n))
word_exact word = exact-same (WritesNumber 4294967295 word) _ (number_within 4294967295 word) (number_exact 4294967295 word (omega arith))
    (λ n s. (let most = s.0 in omega arith, s.1))
    (λ n t. (let small = t.0 in omega arith, t.1))

pub start_line_exact : (line : List ℕ) → Exact (start_read line) (λ n. IsWordNumber n × (line ≡ start_line n))
unfolding start_read
start_line_exact line = behind_exact (codes "start ") line (number_within 4294967295) IsWordNumber decimal word_exact

switch_cases : (word : List ℕ) (on : Bool) (yes other : Bool) → bytes_eq word (codes "on") ≡ yes → bytes_eq word (codes "off") ≡ other
    → cond yes (Some true) (cond other (Some false) None) ≡ Some on → word ≡ switch_word on
switch_cases word on true other p q e = equal_words word (codes "on") p ∙ ap switch_word (some_inj true on e)
switch_cases word on false true p q e = equal_words word (codes "off") q ∙ ap switch_word (some_inj false on e)
switch_cases word on false false p q e = absurd cc

pub switch_of-word : (on : Bool) → switch_of (switch_word on) ≡ Some on
unfolding switch_of
switch_of-word true = refl
switch_of-word false = refl

pub switch_exact : (word : List ℕ) → Exact (switch_of word) (λ on. word ≡ switch_word on)
unfolding switch_of
switch_exact word = record {
  found = λ on e. switch_cases word on (bytes_eq word (codes "on")) (bytes_eq word (codes "off")) refl refl e;
  only = λ on s. ap switch_of s ∙ switch_of-word on;
}

pub drop_line_exact : (line : List ℕ) → Exact (drop_read line) (λ on. line ≡ drop_line on)
unfolding drop_read
drop_line_exact line = exact-same _ _ (drop_read line)
    (behind_exact (codes "drop802 ") line switch_of (λ on. Unit {0}) switch_word (λ word. exact-same _ _ (switch_of word) (switch_exact word) (λ on s. (tt, s)) (λ on t. t.1)))
    (λ on t. t.1) (λ on s. (tt, s))

-- ---- denied ethertypes

record Listed (word es : List ℕ) : Type 0 where
  fit : AllByRecursion (λ (e : ℕ). e < 2 ^ 16) es
  spelled : word ≡ join_with_byte 44 (map ethertype_word es)

listed-one : (word : List ℕ) (e : ℕ) → SpellsEthertype word e → Listed word (e ∷ [])
listed-one word e s = record { fit = (s.fits, tt); spelled = s.spelled }

listed-cons : (a b c d comma e : ℕ) (rest es : List ℕ) → SpellsEthertype (a ∷ b ∷ c ∷ d ∷ []) e → comma ≡ 44 → 0 < length es → Listed rest es → Listed (a ∷ b ∷ c ∷ d ∷ comma ∷ rest) (e ∷ es)
listed-cons a b c d comma e rest [] s same some l = absurd (omega arith)
listed-cons a b c d comma e rest (x ∷ es) s same some l = record {
  fit = (s.fits, l.fit);
  spelled = ap (λ (t : List ℕ). t ++ (comma ∷ rest)) s.spelled ∙ ap (λ (k : ℕ). ethertype_word e ++ (k ∷ rest)) same ∙ ap (λ (t : List ℕ). ethertype_word e ++ (44 ∷ t)) l.spelled;
}

ethertypes_is : (word es : List ℕ) → ethertypes_of word ≡ Some es → Listed word es
ethertypes_is [] es e = absurd cc
ethertypes_is (a ∷ []) es e = absurd cc
ethertypes_is (a ∷ b ∷ []) es e = absurd cc
ethertypes_is (a ∷ b ∷ c ∷ []) es e = absurd cc
ethertypes_is (a ∷ b ∷ c ∷ d ∷ []) es e =
    let word = a ∷ b ∷ c ∷ d ∷ [] in
    let p = bind_some (ethertype_of word) _ es e in
    subst (Listed word) (some_inj (p.0 ∷ []) es p.2) (listed-one word p.0 ((ethertype_exact word).found p.0 p.1))
ethertypes_is (a ∷ b ∷ c ∷ d ∷ comma ∷ rest) es e =
    let word = a ∷ b ∷ c ∷ d ∷ [] in
    let p = bind_some (ethertype_of word) _ es e in
    let q = bind_some (cond (eqb comma 44) (ethertypes_of rest) None) _ es p.2 in
    let g = if_some (eqb comma 44) (ethertypes_of rest) q.0 q.1 in
    subst (Listed (a ∷ b ∷ c ∷ d ∷ comma ∷ rest)) (some_inj (p.0 ∷ q.0) es q.2)
    (listed-cons a b c d comma p.0 rest q.0 ((ethertype_exact word).found p.0 p.1) (eqb-true comma 44 g.0) (ethertypes_some rest q.0 g.1) (ethertypes_is rest q.0 g.1))

-- a word of four bytes is read, and then the others
four_then : (word rest : List ℕ) (e : ℕ) (es : List ℕ) → length word ≡ 4 → ethertype_of word ≡ Some e → ethertypes_of rest ≡ Some es → ethertypes_of (word ++ 44 ∷ rest) ≡ Some (e ∷ es)
four_then [] rest e es four read more = absurd (omega arith)
four_then (a ∷ []) rest e es four read more = absurd (omega arith)
four_then (a ∷ b ∷ []) rest e es four read more = absurd (omega arith)
four_then (a ∷ b ∷ c ∷ []) rest e es four read more = absurd (omega arith)
four_then (a ∷ b ∷ c ∷ d ∷ []) rest e es four read more = rw (read, more) refl
four_then (a ∷ b ∷ c ∷ d ∷ x ∷ word) rest e es four read more = absurd (omega arith)

four_alone : (word : List ℕ) (e : ℕ) → length word ≡ 4 → ethertype_of word ≡ Some e → ethertypes_of word ≡ Some (e ∷ [])
four_alone [] e four read = absurd (omega arith)
four_alone (a ∷ []) e four read = absurd (omega arith)
four_alone (a ∷ b ∷ []) e four read = absurd (omega arith)
four_alone (a ∷ b ∷ c ∷ []) e four read = absurd (omega arith)
four_alone (a ∷ b ∷ c ∷ d ∷ []) e four read = rw read refl
four_alone (a ∷ b ∷ c ∷ d ∷ x ∷ word) e four read = absurd (omega arith)

length-ethertype_word : (e : ℕ) → length (ethertype_word e) ≡ 4
unfolding encode_with
length-ethertype_word e = refl

ethertypes_of-word : (e : ℕ) (es : List ℕ) → AllByRecursion (λ (e : ℕ). e < 2 ^ 16) (e ∷ es) → ethertypes_of (join_with_byte 44 (map ethertype_word (e ∷ es))) ≡ Some (e ∷ es)
ethertypes_of-word e [] fit = four_alone (ethertype_word e) e (length-ethertype_word e) ((ethertype_exact (ethertype_word e)).only e (record { fits = fit.0; spelled = refl }))
ethertypes_of-word e (x ∷ es) fit =
    four_then (ethertype_word e) (join_with_byte 44 (map ethertype_word (x ∷ es))) e (x ∷ es) (length-ethertype_word e) ((ethertype_exact (ethertype_word e)).only e (record { fits = fit.0; spelled = refl })) (ethertypes_of-word x es fit.1)

few_is : (o : Option (List ℕ)) (deny : List ℕ) → few_of o ≡ Some deny → (o ≡ Some deny) × (length deny ≤ denied_most)
few_is (Some es) deny e =
    let g = if_some (leb (length es) 32) (Some es) deny e in
    let same = some_inj es deny g.1 in
    (ap Some same, subst (λ (d : List ℕ). length d ≤ 32) same (leb-true (length es) 32 g.0))
few_is None deny e = absurd cc

listed_deny : (word deny : List ℕ) → 0 < length deny → length deny ≤ denied_most → Listed word deny → IsDeny deny × (word ≡ deny_word deny)
listed_deny word [] some few l = absurd (omega arith)
listed_deny word (e ∷ es) some few l = (record { few = few; fit = All-from_recursion (λ (e : ℕ). e < 2 ^ 16) (e ∷ es) l.fit }, l.spelled)

no_deny : IsDeny []
no_deny = record { few = omega arith; fit = λ k d lt. omega arith }

deny_cases : (word deny : List ℕ) (yes : Bool) → bytes_eq word (codes "none") ≡ yes → cond yes (Some []) (few_of (ethertypes_of word)) ≡ Some deny → IsDeny deny × (word ≡ deny_word deny)
deny_cases word deny true p e = subst (λ (d : List ℕ). IsDeny d × (word ≡ deny_word d)) (some_inj [] deny e) (no_deny, equal_words word (codes "none") p)
deny_cases word deny false p e =
    let f = few_is (ethertypes_of word) deny e in
    listed_deny word deny (ethertypes_some word deny f.0) f.1 (ethertypes_is word deny f.0)

none_is_no_list : ethertypes_of (codes "none") ≡ None
unfolding ethertype_of byte_of digit_of
none_is_no_list = refl

deny_of-word : (deny : List ℕ) → IsDeny deny → deny_of (deny_word deny) ≡ Some deny
unfolding deny_of
deny_of-word [] d = refl
deny_of-word (e ∷ es) d =
    let word = deny_word (e ∷ es) in
    let read = ethertypes_of-word e es (recursion_from_All (λ (e : ℕ). e < 2 ^ 16) (e ∷ es) d.fit) in
    let other : bytes_eq word (codes "none") ≡ false = text_is_other word (codes "none") (λ same. let none = ap ethertypes_of same ∙ none_is_no_list in absurd cc) in
    rw (other, read, le-leb (length (e ∷ es)) 32 d.few) refl

pub deny_exact : (word : List ℕ) → Exact (deny_of word) (λ deny. IsDeny deny × (word ≡ deny_word deny))
unfolding deny_of
deny_exact word = record {
  found = λ deny e. deny_cases word deny (bytes_eq word (codes "none")) refl e;
  only = λ deny t. ap deny_of t.1 ∙ deny_of-word deny t.0;
}

pub deny_line_exact : (line : List ℕ) → Exact (deny_read line) (λ deny. IsDeny deny × (line ≡ deny_line deny))
unfolding deny_read
deny_line_exact line = behind_exact (codes "deny ") line deny_of IsDeny deny_word deny_exact
