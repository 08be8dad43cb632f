-- A made script is a script.
use Rattle.std.proofs.Common.{◌≡◌, ℕ, zero, suc, ◌+◌, ◌/◌, ◌^◌, ◌<◌, ◌≤◌, Bool, true, false, ◌&&◌, not, cond, eqb, List, [], ◌∷◌, ◌++◌, length, refl, sym, ap, ◌∙◌, arith, append_assoc, lit≤, lit<}
use Rattle.std.specs.Prelude.{map, codes}
use Rattle.std.specs.Char.{is_ascii_digit}
use Rattle.std.specs.Fmt.{decimal, digits}
use Rattle.std.specs.List.{AllByRecursion, list_all, flat_map, range_with_len, onto_first}
use Rattle.std.proofs.lemmas.Bool.{and_parts, and_from, ne_eqb}
use Rattle.std.proofs.lemmas.Bool.Decides.{nat_tests}
use Rattle.std.proofs.lemmas.Fmt.{digits_decimal, length-decimal-le}
use Rattle.std.proofs.lemmas.List.{length-append}
use Rattle.std.proofs.lemmas.List.Elements.{All-from_recursion}
use Rattle.std.proofs.lemmas.List.Folds.{list_all-append}
use Rattle.hex.specs.Hex.{encode_with, IsBytes}
use Rattle.plain_text.proofs.Numerals.{own}
use Rattle.plain_text.specs.Lines.{lines_of}
use Rattle.script_text.specs.ScriptLines.{is_skipped, numbered, event_line, switch_word, lines_saying, IsEvent}
use Rattle.script_text.specs.Scripts.{IsSoundScript, Says}
use Rattle.script_text.proofs.AddressWords.{lacks, digits_lack}
use Rattle.script_text.proofs.DigitWords.{bytes-cons}
use Rattle.script_text.proofs.Grammar.{Chain, chain_in_order}
use Rattle.made_input.specs.MadeScripts.{opening, is_odd, doze_second, doze_line, made_lines, ended, made_script, doze_event, made_events, made_contents}
use Rattle.made_input.proofs.Counting.{pieces_short}
use Rattle.made_input.proofs.SaidLines.{made_script-is}
use Rattle.apf_base.specs.Limits.{script_limit}

-- ---- the lines of a text

feed_step : (b : ℕ) (line : List ℕ) (lines more : List (List ℕ)) (feed : Bool) → not feed ≡ true → lines ≡ line ∷ more → cond feed ([] ∷ lines) (onto_first b lines) ≡ (b ∷ line) ∷ more
feed_step b line lines more true e is = absurd cc
feed_step b line lines more false e is = ap (onto_first b) is

-- a line without a line feed, and its line feed
lines_of-ended : (line rest : List ℕ) → list_all (lacks 10) line ≡ true → lines_of (line ++ 10 ∷ rest) ≡ line ∷ lines_of rest
lines_of-ended [] rest e = refl
lines_of-ended (b ∷ line) rest e =
    let parts = and_parts (lacks 10 b) (list_all (lacks 10) line) e in
    feed_step b line (lines_of (line ++ 10 ∷ rest)) (lines_of rest) (eqb b 10) parts.0 (lines_of-ended line rest parts.1)

-- a line that has no line feed, and isn't skipped
record IsLine (line : List ℕ) : Type 0 where
  plain : list_all (lacks 10) line ≡ true
  kept : is_skipped line ≡ false

lines_of-all : (lines : List (List ℕ)) → AllByRecursion IsLine lines → lines_of (flat_map ended lines) ≡ lines
lines_of-all [] a = refl
lines_of-all (l ∷ ls) a =
    ap lines_of (append_assoc l (10 ∷ []) (flat_map ended ls))
    ∙ lines_of-ended l (flat_map ended ls) a.0.plain
    ∙ ap (λ (t : List (List ℕ)). l ∷ t) (lines_of-all ls a.1)

kept_step : (number : ℕ) (l : List ℕ) (rest : List (ℕ × List ℕ)) (ls : List (List ℕ)) (skipped : Bool) → skipped ≡ false → map (λ x. x.1) rest ≡ ls
    → map (λ x. x.1) (cond (not skipped) ((number, l) ∷ rest) rest) ≡ l ∷ ls
kept_step number l rest ls true e is = absurd cc
kept_step number l rest ls false e is = ap (λ (t : List (List ℕ)). l ∷ t) is

kept-all : (number : ℕ) (lines : List (List ℕ)) → AllByRecursion IsLine lines → map (λ l. l.1) (numbered number lines) ≡ lines
kept-all number [] a = refl
kept-all number (l ∷ ls) a = kept_step number l (numbered (number + 1) ls) ls (is_skipped l) a.0.kept (kept-all (number + 1) ls a.1)

-- ---- the made lines

digit_plain : (b : ℕ) → is_ascii_digit b ≡ true → lacks 10 b ≡ true
digit_plain b e = grind (arith, nat_tests)

words_plain : (on : Bool) → list_all (lacks 10) (cond on (codes " doze on") (codes " doze off")) ≡ true
words_plain true = refl
words_plain false = refl

not_hash : (b : ℕ) (rest : List ℕ) → eqb b 35 ≡ false → is_skipped (b ∷ rest) ≡ false
not_hash b rest e =
    let some : eqb (suc (length rest)) 0 ≡ false = ne_eqb (suc (length rest)) 0 (λ none. omega arith) in
    rw (some, e) refl

doze_is_line : (j : ℕ) → doze_second j < 2 ^ 64 → IsLine (doze_line j)
unfolding doze_line
doze_is_line j small =
    let number : list_all (lacks 10) (decimal (doze_second j)) ≡ true = digits_lack 10 (decimal (doze_second j)) digit_plain (digits_decimal own (doze_second j) small) in
    record {
      plain = list_all-append (lacks 10) (codes "at " ++ decimal (doze_second j)) (cond (is_odd j) (codes " doze on") (codes " doze off"))
          ∙ and_from _ _ (list_all-append (lacks 10) (codes "at ") (decimal (doze_second j)) ∙ and_from _ _ refl number) (words_plain (is_odd j));
      kept = not_hash 97 (codes "t " ++ decimal (doze_second j) ++ cond (is_odd j) (codes " doze on") (codes " doze off")) refl;
    }

doze_are_lines : (a m : ℕ) → doze_second (a + m) < 2 ^ 64 → AllByRecursion IsLine (map doze_line (range_with_len a m))
doze_are_lines a zero small = tt
doze_are_lines a (suc m) small = (doze_is_line a (omega arith), doze_are_lines (a + 1) m (omega arith))

-- the same as a test
abbrev is_line : List ℕ → Bool
is_line line = list_all (lacks 10) line && not (is_skipped line)

not_true : (b : Bool) → not b ≡ true → b ≡ false
not_true true e = absurd cc
not_true false e = refl

lines_from : (lines later : List (List ℕ)) → list_all is_line lines ≡ true → AllByRecursion IsLine later → AllByRecursion IsLine (lines ++ later)
lines_from [] later e rest = rest
lines_from (l ∷ ls) later e rest =
    let parts = and_parts (is_line l) (list_all is_line ls) e in
    let line = and_parts (list_all (lacks 10) l) (not (is_skipped l)) parts.0 in
    (record { plain = line.0; kept = not_true (is_skipped l) line.1 }, lines_from ls later parts.1 rest)

made_are_lines : (n : ℕ) → n ≤ 100000 → AllByRecursion IsLine (made_lines n)
made_are_lines n le = lines_from opening (map doze_line (range_with_len 1 (n / 10))) refl (doze_are_lines 1 (n / 10) (omega arith))

-- ---- the lines of what it says

words_same : (front : List ℕ) (on : Bool) → (front ++ codes " ") ++ (codes "doze " ++ switch_word on) ≡ front ++ cond on (codes " doze on") (codes " doze off")
words_same front true = append_assoc front (codes " ") (codes "doze on")
words_same front false = append_assoc front (codes " ") (codes "doze off")

event_is : (j : ℕ) → doze_line j ≡ event_line (doze_event j)
unfolding doze_line
event_is j = sym (words_same (codes "at " ++ decimal (doze_second j)) (is_odd j))

events_are : (js : List ℕ) → map doze_line js ≡ map event_line (map doze_event js)
events_are [] = refl
events_are (j ∷ js) = rw (event_is j, events_are js) refl

lines_are : (n : ℕ) → made_lines n ≡ lines_saying (made_contents n)
unfolding made_contents digits encode_with
lines_are n = ap (λ (t : List (List ℕ)). opening ++ t) (events_are (range_with_len 1 (n / 10)))

-- ---- its values

mac_fits : IsBytes (0x02 ∷ 0x00 ∷ 0x00 ∷ 0x00 ∷ 0x00 ∷ 0x01 ∷ [])
mac_fits =
    bytes-cons 2 (0 ∷ 0 ∷ 0 ∷ 0 ∷ 1 ∷ []) (lit< tt) (bytes-cons 0 (0 ∷ 0 ∷ 0 ∷ 1 ∷ []) (lit< tt) (bytes-cons 0 (0 ∷ 0 ∷ 1 ∷ []) (lit< tt) (bytes-cons 0 (0 ∷ 1 ∷ []) (lit< tt) (bytes-cons 0 (1 ∷ []) (lit< tt) (bytes-cons 1 [] (lit< tt) (λ k. omega arith))))))

events_fit : (a m : ℕ) → doze_second (a + m) < 2 ^ 32 → AllByRecursion IsEvent (map doze_event (range_with_len a m))
events_fit a zero small = tt
events_fit a (suc m) small = ((omega arith, tt), events_fit (a + 1) m (omega arith))

events_rise : (latest a m : ℕ) → latest ≤ doze_second a → Chain latest (map doze_event (range_with_len a m))
events_rise latest a zero le = tt
events_rise latest a (suc m) le = (le, events_rise (doze_second a) (a + 1) m (omega arith))

sound : (n : ℕ) → n ≤ 100000 → IsSoundScript (made_contents n)
unfolding made_contents
sound n le = record {
  mac = record { six = refl; bytes = mac_fits };
  capacity = record { least = lit≤ tt; most = lit≤ tt };
  start = lit< tt;
  deny = record { few = lit≤ tt; fit = All-from_recursion (λ e. e < 2 ^ 16) (0x88a2 ∷ []) (lit< tt, tt) };
  events = All-from_recursion IsEvent (made_events n) ((lit< tt, tt), ((lit< tt, (lit< tt, lit≤ tt)), events_fit 1 (n / 10) (omega arith)));
  order = chain_in_order 1000 (made_events n) (lit≤ tt, (lit≤ tt, events_rise 1000 1 (n / 10) (lit≤ tt)));
}

-- ---- the whole

pub said : (n : ℕ) → n ≤ 100000 → Says (made_script n) (made_contents n)
unfolding made_script
said n le =
    let all = made_are_lines n le in
    record {
      sound = sound n le;
      lines = ap (λ (ls : List (List ℕ)). map (λ l. l.1) (numbered 1 ls)) (lines_of-all (made_lines n) all) ∙ kept-all 1 (made_lines n) all ∙ lines_are n;
    }

words_short : (on : Bool) → length (cond on (codes " doze on") (codes " doze off")) ≤ 9
words_short true = lit≤ tt
words_short false = lit≤ tt

doze_short : (j : ℕ) → j ≤ 10000 → length (ended (doze_line j)) ≤ 20
unfolding doze_line
doze_short j le =
    let t = doze_second j in
    let words = cond (is_odd j) (codes " doze on") (codes " doze off") in
    let number = length-decimal-le 6 t (lit< tt) (omega arith) (omega arith) in
    let short = words_short (is_odd j) in
    let first = length-append (codes "at ") (decimal t) in
    let second = length-append (codes "at " ++ decimal t) words in
    let third = length-append (codes "at " ++ decimal t ++ words) (10 ∷ []) in
    omega arith

pub script_short : (n : ℕ) → n ≤ 100000 → length (made_script n) ≤ script_limit
script_short n le =
    let f : ℕ → List ℕ = λ j. ended (doze_line j) in
    let front : length (flat_map ended opening) ≤ 1000 = lit≤ tt in
    let changes = pieces_short f 20 1 (n / 10) (λ j lt. doze_short j (omega arith)) in
    let size = ap length (made_script-is n) ∙ length-append (flat_map ended opening) (flat_map f (range_with_len 1 (n / 10))) in
    omega arith
