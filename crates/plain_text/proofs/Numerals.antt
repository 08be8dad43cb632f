-- A word of digits is the decimal text of its number.
use Rattle.std.proofs.Common.{◌≡◌, ℕ, zero, suc, ◌^◌, ◌<◌, ◌≤◌, Bool, true, false, ◌&&◌, ◌||◌, cond, eqb, leb, ltb, List, length, get_or, Option, Some, None, Result, Ok, Err, refl, sym, ap, subst, ◌∙◌, arith, rules, inl, inr}
use Rattle.std.specs.Prelude.{MatchResult, IfSome}
use Rattle.std.specs.Char.{is_ascii_digit}
use Rattle.std.specs.List.{list_all}
use Rattle.std.specs.Result.{result_ok, OkIff}
use Rattle.std.specs.Fmt.{decimal}
use Rattle.std.specs.Str.{IsUtf8}
use Rattle.std.specs.Str.Parse.{digits_value, ParsesUnsigned}
use Rattle.std.proofs.lemmas.Bool.{or_parts, eqb-true, eqb-false, leb-true, ltb-false, le-leb, lt-leb, le-ltb, ne_eqb, cases_lt}
use Rattle.std.proofs.lemmas.Fmt.{decimal_digit, decimal_nonempty, first_decimal, digits_decimal, digits_value-decimal, decimal-digits_value, IsAscii-from_digits}
use Rattle.std.proofs.lemmas.Str.{IsUtf8-from_ascii}
use Rattle.std.proofs.lemmas.Str.Parse.{IsNumeralModel, numerals_by_value, parse_digits}
use Rattle.plain_text.specs.Numbers.{WritesNumber, is_numeral, at_most, number_within}

-- the words of `parse` for digits
pub own : IsNumeralModel (λ ds. list_all is_ascii_digit ds ≡ true) (digits_value 10)
own = numerals_by_value _ (search rules)

-- ---- what a numeral is

record Numeral (word : List ℕ) : Type 0 where
  digits : list_all is_ascii_digit word ≡ true
  some : 0 < length word
  front : get_or word 0 0 ≡ 48 → length word ≡ 1

guarded : (a b : Bool) → cond a false b ≡ true → (a ≡ false) × (b ≡ true)
guarded true b e = absurd cc
guarded false b e = (refl, e)

front_from : (first long : Bool) (word : List ℕ) → eqb (get_or word 0 0) 48 ≡ first → ltb 1 (length word) ≡ long → (first && long) ≡ false → 0 < length word → get_or word 0 0 ≡ 48 → length word ≡ 1
front_from true true word p q e some nought = absurd cc
front_from true false word p q e some nought = let le = ltb-false 1 (length word) q in omega arith
front_from false long word p q e some nought = absurd (eqb-false _ _ p nought)

numeral_parts : (word : List ℕ) → is_numeral word ≡ true → Numeral word
numeral_parts word e =
    let g = guarded (eqb (length word) 0 || (eqb (get_or word 0 0) 48 && ltb 1 (length word))) (list_all is_ascii_digit word) e in
    let parts = or_parts (eqb (length word) 0) (eqb (get_or word 0 0) 48 && ltb 1 (length word)) g.0 in
    let none = eqb-false (length word) 0 parts.0 in
    let some : 0 < length word = omega (arith, none) in
    record { digits = g.1; some = some; front = front_from (eqb (get_or word 0 0) 48) (ltb 1 (length word)) word refl refl parts.1 some }

short : (word : List ℕ) (first : Bool) → eqb (get_or word 0 0) 48 ≡ first → (get_or word 0 0 ≡ 48 → length word ≡ 1) → (first && ltb 1 (length word)) ≡ false
short word true e front = le-ltb 1 (length word) (let one = front (eqb-true _ _ e) in omega arith)
short word false e front = refl

numeral_from : (word : List ℕ) → Numeral word → is_numeral word ≡ true
numeral_from word n =
    let some = n.some in
    let none : eqb (length word) 0 ≡ false = ne_eqb _ _ (λ e. omega arith) in
    rw (none, short word (eqb (get_or word 0 0) 48) refl n.front) n.digits

-- ---- the number

at_most_cases : (limit n m : ℕ) (b : Bool) → leb n limit ≡ b → cond b (Some n) None ≡ Some m → (m ≤ limit) × (n ≡ m)
at_most_cases limit n m true test e = let same : n ≡ m = cc in (subst (λ (k : ℕ). k ≤ limit) same (leb-true n limit test), same)
at_most_cases limit n m false test e = absurd cc

pub if_some : {A : Type 0} (b : Bool) (x : Option A) (y : A) → cond b x None ≡ Some y → (b ≡ true) × (x ≡ Some y)
if_some true x y e = (refl, e)
if_some false x y e = absurd cc

pub at_most_is : (limit n m : ℕ) → at_most limit n ≡ Some m → (m ≤ limit) × (n ≡ m)
at_most_is limit n m e = at_most_cases limit n m (leb n limit) refl e

pub at_most-le : (limit n : ℕ) → n ≤ limit → at_most limit n ≡ Some n
at_most-le limit n le = rw (le-leb n limit le) refl

-- only the text of 0 begins with a zero
front_of : (n : ℕ) → n < 2 ^ 64 → get_or (decimal n) 0 0 ≡ 48 → length (decimal n) ≡ 1
front_of zero small e = ap length (decimal_digit 0 (omega arith))
front_of (suc n) small e = let first = first_decimal (suc n) (omega arith) small in absurd (omega arith)

-- a word that is a number is the number's text
pub number_of_is : (limit : ℕ) (word : List ℕ) (n : ℕ) → limit < 2 ^ 64 → number_within limit word ≡ Some n → WritesNumber limit word n
unfolding number_within
number_of_is limit word n small e =
    let g = if_some (is_numeral word) (at_most limit (digits_value 10 word)) n e in
    let b = at_most_is limit (digits_value 10 word) n g.1 in
    let p = numeral_parts word g.0 in
    let fits : digits_value 10 word < 2 ^ 64 = let le = b.0 in let same = b.1 in omega arith in
    (b.0, sym (decimal-digits_value own word p.digits p.some p.front fits) ∙ ap decimal b.1)

pub found_from : (limit : ℕ) (word : List ℕ) (o : Option ℕ) → limit < 2 ^ 64 → o ≡ number_within limit word → IfSome o (λ n. WritesNumber limit word n)
found_from limit word (Some n) small e = number_of_is limit word n small (sym e)
found_from limit word None small e = tt

-- the text of a number is that number
pub number_of-decimal : (limit n : ℕ) → limit < 2 ^ 64 → n ≤ limit → number_within limit (decimal n) ≡ Some n
unfolding number_within
number_of-decimal limit n bound le =
    let small : n < 2 ^ 64 = omega arith in
    let some = decimal_nonempty n small in
    let p : Numeral (decimal n) = record { digits = digits_decimal own n small; some = some; front = front_of n small } in
    rw (numeral_from (decimal n) p, digits_value-decimal own n small) (at_most-le limit n le)

-- ---- a lower limit is a further test

lowered : (b : Bool) (high limit n : ℕ) → limit ≤ high → cond b (at_most high n) None ≡ None → cond b (at_most limit n) None ≡ None
lowered true high limit n le e = elim (cases_lt high n) [
  | inl lt ↦ rw (lt-leb n limit (omega arith)) refl
  | inr most ↦ let some = at_most-le high n most in absurd cc
]
lowered false high limit n le e = refl

pub lower-none : (high limit : ℕ) (word : List ℕ) → limit ≤ high → number_within high word ≡ None → number_within limit word ≡ None
unfolding number_within
lower-none high limit word le e = lowered (is_numeral word) high limit (digits_value 10 word) le e

pub lower-some : (high limit : ℕ) (word : List ℕ) (n : ℕ) → number_within high word ≡ Some n → n ≤ limit → number_within limit word ≡ Some n
unfolding number_within
lower-some high limit word n e le =
    let g = if_some (is_numeral word) (at_most high (digits_value 10 word)) n e in
    let b = at_most_is high (digits_value 10 word) n g.1 in
    rw (g.0, b.1) (at_most-le limit n le)

pub lower-over : (high limit : ℕ) (word : List ℕ) (n : ℕ) → number_within high word ≡ Some n → limit < n → number_within limit word ≡ None
unfolding number_within
lower-over high limit word n e over =
    let g = if_some (is_numeral word) (at_most high (digits_value 10 word)) n e in
    let b = at_most_is high (digits_value 10 word) n g.1 in
    rw (g.0, b.1, lt-leb n limit over) refl

-- ---- what `parse` answers

value_cases : {E : Type 0} (r : Result ℕ E) (P : Type 0) (n : ℕ) → P → OkIff r (P × (n < 2 ^ 32)) n → result_ok r ≡ at_most 4294967295 n
value_cases (Ok x) P n p h = rw (h.1, at_most-le 4294967295 n (let lt = h.0.1 in omega arith)) refl
value_cases (Err e) P n p h = elim (cases_lt n (2 ^ 32)) [ inl lt ↦ absurd (h (p, lt)) | inr le ↦ rw (lt-leb n 4294967295 (omega arith)) refl ]

pub parsed : {E : Type 0} (word bs : List ℕ) (r : Result ℕ E) → is_numeral word ≡ true → bs ≡ word → ParsesUnsigned 32 10 bs r → result_ok r ≡ number_within 4294967295 word
unfolding number_within
parsed word bs r e same h =
    let p = numeral_parts word e in
    let read = parse_digits own 32 word r (rw same at h) p.digits in
    rw e (value_cases r (0 < length word) (digits_value 10 word) p.some read)

-- digits are text
pub numeral_is_text : (word : List ℕ) → is_numeral word ≡ true → IsUtf8 word
numeral_is_text word e = IsUtf8-from_ascii word (IsAscii-from_digits word (own.to word (numeral_parts word e).digits))

pub not_numeral : (limit : ℕ) (word : List ℕ) → is_numeral word ≡ false → number_within limit word ≡ None
unfolding number_within
not_numeral limit word e = rw e refl

-- a text that was checked has the bytes that were
pub same_text : {S E : Type 0} (now : S → List ℕ) (r : Result S E) (x : S) (bs : List ℕ) (P : Type 0) (Q : E → Type 0) → result_ok r ≡ Some x → MatchResult r (λ s. (now s ≡ bs) × P) Q → now x ≡ bs
same_text now (Ok s) x bs P Q e h = let same : s ≡ x = cc in subst (λ t. now t ≡ bs) same h.0
same_text now (Err s) x bs P Q e h = absurd cc

pub no_text : {S E : Type 0} (r : Result S E) (P : S → Type 0) (T : Type 0) (Q : E → Type 0) → result_ok r ≡ None → MatchResult r P (λ e. (T → ⊥) × Q e) → T → ⊥
no_text (Ok s) P T Q e h t = absurd cc
no_text (Err s) P T Q e h t = h.0 t
