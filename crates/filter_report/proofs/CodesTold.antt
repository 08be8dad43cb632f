-- The lines of a report determine its codes.
use Rattle.std.proofs.Common.{◌≡◌, ℕ, zero, suc, ◌+◌, ◌/◌, ◌%◌, ◌<◌, true, false, not, List, [], ◌∷◌, ◌++◌, length, slice_index, get_or, Some, refl, sym, ap, subst, ◌∙◌, arith, inl, inr}
use Rattle.std.specs.Prelude.{All, codes}
use Rattle.std.specs.Fmt.{decimal}
use Rattle.std.specs.List.{list_all}
use Rattle.std.proofs.lemmas.Bool.{and_parts, and_from, eq-eqb, cases_lt}
use Rattle.std.proofs.lemmas.Bool.Decides.{nat_tests}
use Rattle.std.proofs.lemmas.List.{append_assoc, append_cancel_right, get_or_past, ext_get_or}
use Rattle.std.proofs.lemmas.List.Elements.{All-cons, All-head, All-nil, All-tail}
use Rattle.std.proofs.lemmas.List.Folds.{list_all-append}
use Rattle.hex.specs.Hex.{encode_lower, encode_with, hex_digit_value, lower_digits}
use Rattle.hex.proofs.HexLemmas.{IsDigits-lower_digits}
use Rattle.apf_coding.specs.Words.{AreBytes}
use Rattle.script_text.specs.Report.{gen_line, left_word}
use Rattle.script_text.proofs.AddressWords.{lacks}
use Rattle.script_text.proofs.Exactness.{some_inj}
use Rattle.script_text.proofs.Grammar.{cons_head, cons_tail}
use Rattle.filter_core.proofs.Numbering.{replay_by_last, course_numbered}
use Rattle.filter_core.specs.Installs.{Installed}
use Rattle.filter_core.specs.Replay.{Entry, Arrival, install, reply, answer, learnt, counted, total, installs_of, replay, story, AreByLast}
use Rattle.policy_state.specs.declared.basis.Script.{Script}
use Rattle.filter_report.proofs.Telling.{length-AllFit}
use Rattle.filter_core.specs.Arrivals.{frames_of}
use Rattle.filter_report.specs.Report.{AllFit, Tells, IsReport, IsStory}
use Rattle.filter_report.specs.Text.{entry_lines}

-- ---- hexadecimal text

no_digit : (m : ℕ) → hex_digit_value 0 ≡ Some m → ⊥
no_digit m e = cc e

-- a digit below 16 is that of no other number: past the table there is 0, which is no digit
digit_one : (m n : ℕ) → m < 16 → slice_index lower_digits m ≡ slice_index lower_digits n → m ≡ n
digit_one m n lt same = elim (cases_lt n 16) [
  | inl below ↦ some_inj m n (sym (IsDigits-lower_digits m lt) ∙ ap hex_digit_value same ∙ IsDigits-lower_digits n below)
  | inr past ↦ absurd (no_digit m (sym (ap hex_digit_value (same ∙ get_or_past lower_digits n 0 past)) ∙ IsDigits-lower_digits m lt))
]

-- bytes have a text that nothing else has
encode_one : (xs ys : List ℕ) → AreBytes xs → encode_with lower_digits xs ≡ encode_with lower_digits ys → xs ≡ ys
unfolding encode_with
encode_one [] [] bytes same = refl
encode_one [] (y ∷ ys) bytes same = absurd (cc same)
encode_one (x ∷ xs) [] bytes same = absurd (cc same)
encode_one (x ∷ xs) (y ∷ ys) bytes same =
    let byte : x < 256 = bytes 0 in
    let high = digit_one (x / 16) (y / 16) (omega arith) (cons_head _ _ _ _ same) in
    let low = digit_one (x % 16) (y % 16) (omega arith) (cons_head _ _ _ _ (cons_tail _ _ _ _ same)) in
    let is : x ≡ y = omega (arith, high, low) in
    let rest = encode_one xs ys (λ k. bytes (suc k)) (cons_tail _ _ _ _ (cons_tail _ _ _ _ same)) in
    ap (λ (b : ℕ). b ∷ xs) is ∙ ap (λ (bs : List ℕ). y ∷ bs) rest

digit_no_blank : (c d : ℕ) → hex_digit_value c ≡ Some d → lacks 32 c ≡ true
digit_no_blank c d e = grind (arith, nat_tests)

table_no_blank : (n : ℕ) → lacks 32 (slice_index lower_digits n) ≡ true
table_no_blank n = elim (cases_lt n 16) [
  | inl below ↦ digit_no_blank (slice_index lower_digits n) n (IsDigits-lower_digits n below)
  | inr past ↦ ap (lacks 32) (get_or_past lower_digits n 0 past)
]

-- a text and its line feed have no blank
no_blank : (xs : List ℕ) → list_all (lacks 32) (encode_with lower_digits xs ++ 10 ∷ []) ≡ true
unfolding encode_with
no_blank [] = refl
no_blank (x ∷ xs) = and_from _ _ (table_no_blank (x / 16)) (and_from _ _ (table_no_blank (x % 16)) (no_blank xs))

-- ---- what stands behind the last of a byte

within : (byte : ℕ) (e front f : List ℕ) → e ≡ front ++ byte ∷ f → list_all (lacks byte) e ≡ true → ⊥
within byte e front f is all =
    let parts = and_parts (list_all (lacks byte) front) (list_all (lacks byte) (byte ∷ f)) (sym (list_all-append (lacks byte) front (byte ∷ f)) ∙ ap (list_all (lacks byte)) (sym is) ∙ all) in
    let here : lacks byte byte ≡ true = (and_parts (lacks byte byte) (list_all (lacks byte) f) parts.1).0 in
    let no : false ≡ true = sym (ap not (eq-eqb byte byte refl)) ∙ here in
    cc no

last_one : (byte : ℕ) (xs ys e f : List ℕ) → list_all (lacks byte) e ≡ true → list_all (lacks byte) f ≡ true → xs ++ byte ∷ e ≡ ys ++ byte ∷ f → e ≡ f
last_one byte [] [] e f p q same = cons_tail _ _ _ _ same
last_one byte [] (y ∷ ys) e f p q same = absurd (within byte e ys f (cons_tail _ _ _ _ same) p)
last_one byte (x ∷ xs) [] e f p q same = absurd (within byte f xs e (sym (cons_tail _ _ _ _ same)) q)
last_one byte (x ∷ xs) (y ∷ ys) e f p q same = last_one byte xs ys e f p q (cons_tail _ _ _ _ same)

-- a line ends with a blank and this
record Ends (e line : List ℕ) : Type 0 where
  front : List ℕ
  is : line ≡ front ++ 32 ∷ e

code_ends : (xs text : List ℕ) → Ends (text ++ codes "\n") (xs ++ codes " code " ++ text ++ codes "\n")
code_ends xs text =
    let e = text ++ codes "\n" in
    record {
      front = xs ++ codes " code";
      is = append_assoc (xs ++ codes " code ") text (codes "\n") ∙ append_assoc xs (codes " code ") e ∙ sym (append_assoc xs (codes " code") (32 ∷ e));
    }

gen_ends : (number at : ℕ) (left code : List ℕ) → Ends (encode_lower code ++ codes "\n") (gen_line number at left code)
unfolding gen_line
gen_ends number at left code =
    code_ends
    (codes "gen " ++ decimal number ++ codes " at " ++ decimal at ++ codes " size " ++ decimal (length code) ++ codes " left " ++ left_word left)
    (encode_lower code)

-- ---- a line has one code

pub one_code : (number at : ℕ) (left code other : List ℕ) → AreBytes code → gen_line number at left code ≡ gen_line number at left other → code ≡ other
one_code number at left code other bytes same =
    let a = gen_ends number at left code in
    let b = gen_ends number at left other in
    let rest = last_one 32 a.front b.front _ _ (no_blank code) (no_blank other) (sym a.is ∙ same ∙ b.is) in
    encode_one code other bytes (append_cancel_right (encode_lower code) (encode_lower other) (codes "\n") rest)

-- ---- the lines have one code for each install

bytes_at : (programs : List (List ℕ)) (n : ℕ) → All AreBytes programs → AreBytes (get_or programs n [])
bytes_at [] n all = λ k. omega arith
bytes_at (code ∷ programs) zero all = All-head AreBytes code programs all
bytes_at (code ∷ programs) (suc n) all = bytes_at programs n (All-tail AreBytes code programs all)

abbrev Same : List (List ℕ) → List (List ℕ) → Installed → Type 0
Same programs others i = get_or programs i.number [] ≡ get_or others i.number []

pub codes_told : (programs others : List (List ℕ)) (steps more : List ℕ) (entries : List Entry) → All AreBytes programs
    → entry_lines programs steps entries ≡ entry_lines others more entries → All (λ i. get_or programs i.number [] ≡ get_or others i.number []) (installs_of entries)
unfolding entry_lines
codes_told programs others steps more [] all same = All-nil (Same programs others)
codes_told programs others steps more (install i ∷ entries) all same =
    let here = one_code i.number i.at i.left (get_or programs i.number []) (get_or others i.number []) (bytes_at programs i.number all) (cons_head _ _ _ _ same) in
    All-cons (Same programs others) i (installs_of entries) here (codes_told programs others steps more entries all (cons_tail _ _ _ _ same))
codes_told programs others steps more (reply r clock ∷ entries) all same = codes_told programs others steps more entries all (cons_tail _ _ _ _ same)
codes_told programs others steps more (answer k a ∷ entries) all same = codes_told programs others steps more entries all (cons_tail _ _ _ _ same)
codes_told programs others steps more (learnt k r ∷ entries) all same = codes_told programs others steps more entries all (cons_tail _ _ _ _ same)
codes_told programs others steps more (counted c n ∷ entries) all same = codes_told programs others steps more entries all (cons_tail _ _ _ _ same)
codes_told programs others steps more (total a b d ∷ entries) all same = codes_told programs others steps more entries all (cons_tail _ _ _ _ same)

-- ---- a report has one list of codes

-- what holds of the number of each install holds of each number from the first on
at_each : (P : ℕ → Type 0) (n : ℕ) (entries : List Entry) → AreByLast n entries → All (λ i. P i.number) (installs_of entries) → (k : ℕ) → k < length (installs_of entries) → P (n + k)
at_each P n [] h all k lt = absurd (omega (arith, lt))
at_each P n (install i ∷ entries) h all zero lt = subst P (let first = h.0 in omega (arith, first)) (All-head (λ (j : Installed). P j.number) i (installs_of entries) all)
at_each P n (install i ∷ entries) h all (suc k) lt =
    let next = at_each P (n + 1) entries h.1 (All-tail (λ (j : Installed). P j.number) i (installs_of entries) all) k (omega (arith, lt)) in
    let same : (n + 1) + k ≡ n + suc k = omega arith in
    subst P same next
at_each P n (reply r clock ∷ entries) h all k lt = at_each P n entries h all k lt
at_each P n (answer m a ∷ entries) h all k lt = at_each P n entries h.1 all k lt
at_each P n (learnt m r ∷ entries) h all k lt = at_each P n entries h all k lt
at_each P n (counted c m ∷ entries) h all k lt = at_each P n entries h all k lt
at_each P n (total a b d ∷ entries) h all k lt = at_each P n entries h all k lt

-- codes that fit are of bytes
fit_bytes : (programs : List (List ℕ)) (installs : List Installed) → AllFit programs installs → All AreBytes programs
fit_bytes [] [] fit = All-nil AreBytes
fit_bytes [] (i ∷ installs) fit = absurd fit
fit_bytes (code ∷ programs) [] fit = absurd fit
fit_bytes (code ∷ programs) (i ∷ installs) fit = All-cons AreBytes code programs fit.0.bytes (fit_bytes programs installs fit.1)

one_list : (entries : List Entry) (frames lines : List (List ℕ)) → AreByLast 0 entries → (a b : Tells entries frames lines) → a.programs ≡ b.programs
one_list entries frames lines numbered a b =
    let installs = installs_of entries in
    let first = length-AllFit a.programs installs a.fit in
    let second = length-AllFit b.programs installs b.fit in
    let each = codes_told a.programs b.programs _ _ entries (fit_bytes a.programs installs a.fit) (sym a.telling ∙ b.telling) in
    let At = λ (n : ℕ). get_or a.programs n [] ≡ get_or b.programs n [] in
    ext_get_or [] a.programs b.programs (sym first ∙ second)
    (λ k lt. let here : 0 + k ≡ k = omega arith in subst At here (at_each At 0 entries numbered each k (omega (arith, first, lt))))

pub report_codes : (script : Script) (arrivals : List Arrival) (lines : List (List ℕ)) (one other : IsReport script arrivals lines) → one.programs ≡ other.programs
report_codes script arrivals lines one other = one_list (replay script arrivals) (frames_of arrivals) lines (replay_by_last script arrivals) one other

pub story_codes : (script : Script) (arrivals : List Arrival) (lines : List (List ℕ)) (one other : IsStory script arrivals lines) → one.programs ≡ other.programs
story_codes script arrivals lines one other = one_list (story script arrivals) (frames_of arrivals) lines (course_numbered script arrivals).by_last one other
