-- The items of a record say what its question answers.
use Rattle.std.proofs.Common.{◌≡◌, ℕ, ◌+◌, ◌-◌, ◌≤◌, Bool, true, false, cond, not, eqb, ltb, leb, List, [], ◌∷◌, ◌++◌, length, get_or, drop, Some, None, refl, sym, ap, subst, ◌∙◌, arith, length-take, length-drop, eqb-true, le-ltb, flat_map}
use Rattle.std.specs.Prelude.{◌&&◌, ◌||◌, ◌==◌, nat_lt, nat_le, bytes_eq, slice_range}
use Rattle.std.specs.List.{list_all, AllByRecursion}
use Rattle.std.proofs.lemmas.Bool.Decides.{nat_tests}
use Rattle.std.proofs.lemmas.Bool.{and_parts}
use Rattle.apf_coding.specs.declared.instruction.Op.TheVariants.{Ldh, Ldw, Jgt, Jne, Jlt, Ext}
use Rattle.apf_coding.specs.declared.machine.Verdict.TheVariants.{Drop}
use Rattle.apf_coding.specs.Meaning.{State}
use Rattle.apf_asm.specs.declared.item.Item.{Item}
use Rattle.apf_asm.specs.declared.item.Item.TheVariants as items
use Rattle.apf_asm.specs.declared.item.Target.TheVariants as targets
use Rattle.apf_asm.specs.Refusals.{stands}
use Rattle.data_counters.specs.declared.counter.Counter.TheVariants.{DroppedRa}
use Rattle.frame_views.specs.Fields.{bytes_value, field, part}
use Rattle.ra_records.specs.declared.span.Span.{Span}
use Rattle.ra_records.specs.Masks.{is_equal, same_outside, IsSpanWithin, IsNumber}
use Rattle.ra_records.specs.Advert.{same, masks, sections, sections_of, number_in, is_number, IsSound}
use Rattle.ra_records.proofs.Sections.{same-sections}
use Rattle.ra_records.proofs.Rising.{masks_rise, between_within, numbers}
use Rattle.policy_state.specs.declared.basis.Chosen.{Chosen}
use Rattle.policy_state.specs.declared.ruling.Ruling.{Ruling}
use Rattle.policy_state.specs.declared.ruling.Ruling.TheVariants.{Says, Silent}
use Rattle.policy_state.specs.Asking.{reading, when}
use Rattle.policy_state.specs.Records.{lasts, advertised_again}
use Rattle.policy_state.proofs.FieldsSeen.{number_seen, bytes_seen}
use Rattle.apf_asm.specs.Building.{fixed, jump_if}
use Rattle.apf_asm.specs.Saying.{TellsSaid}
use Rattle.policy_state.specs.Rulings.{said_of}
use Rattle.apf_asm.proofs.Rules.{Yields, done, restated, counts, places, reads_half, reads_word, recalls_0, answers, leaves_if, leaves_unless, labelled, told}
use Rattle.policy_state.proofs.Rulings.{rulings}
use Rattle.apf_generate.specs.RaListing.{section_bytes, section_items, lifetime_items, dropping_items, compare_items, ra_items}

-- ---- the ruling as the items come to it

abbrev drops : Ruling
drops = Says Drop DroppedRa

-- two bytes, and else four
abbrev width_of : Span → ℕ
width_of s = cond (s.len == 2) 2 4

abbrev lifetime_tree : ℕ → List ℕ → List Span → Ruling
lifetime_tree hold frame [] = drops
lifetime_tree hold frame (s ∷ ss) = reading (field frame s.at (width_of s)) (λ v. cond (nat_lt v hold) Silent (lifetime_tree hold frame ss))

abbrev section_tree : List ℕ → List ℕ → List Span → Ruling → Ruling
section_tree bytes frame [] a = a
section_tree bytes frame (s ∷ ss) a =
    reading (part frame s.at (length (section_bytes bytes s))) (λ there. cond (not (bytes_eq there (section_bytes bytes s))) Silent (section_tree bytes frame ss a))

-- ---- is that of the table

not-below : (a b : ℕ) → not (nat_lt b a) ≡ nat_le a b
not-below a b = go (ltb b a) (leb a b) refl refl
  where
    go : (t u : Bool) → ltb b a ≡ t → leb a b ≡ u → not t ≡ u
    go true true e f = absurd (grind (arith, nat_tests))
    go true false e f = refl
    go false true e f = refl
    go false false e f = absurd (grind (arith, nat_tests))

away_cases : (t : Bool) (a b : Ruling) → (t ≡ false → a ≡ b) → cond t Silent a ≡ when (not t) b
away_cases true a b e = refl
away_cases false a b e = e refl

there_is : {A : Type 0} (t : Bool) (v : A) (k : A → Ruling) → t ≡ false → reading (cond t None (Some v)) k ≡ k v
there_is true v k e = absurd cc
there_is false v k e = refl

when_and : (a b : Bool) (r : Ruling) → when a (when b r) ≡ when (a && b) r
when_and true b r = refl
when_and false b r = refl

number_there : (frame : List ℕ) (at width : ℕ) (k : ℕ → Ruling) → at + width ≤ length frame → reading (field frame at width) k ≡ k (bytes_value (slice_range frame at (at + width)))
unfolding field
number_there frame at width k fits = there_is (nat_lt (length frame) (at + width)) (bytes_value (slice_range frame at (at + width))) k (le-ltb (length frame) (at + width) fits)

part_there : (frame : List ℕ) (at len : ℕ) (k : List ℕ → Ruling) → at + len ≤ length frame → reading (part frame at len) k ≡ k (slice_range frame at (at + len))
unfolding part
part_there frame at len k fits = there_is (nat_lt (length frame) (at + len)) (slice_range frame at (at + len)) k (le-ltb (length frame) (at + len) fits)

width_cases : (a b : Bool) (n : ℕ) → eqb n 2 ≡ a → eqb n 4 ≡ b → (a || b) ≡ true → cond a 2 4 ≡ n
width_cases true b n e f h = sym (eqb-true n 2 e)
width_cases false true n e f h = sym (eqb-true n 4 f)
width_cases false false n e f h = absurd cc

width-is : (s : Span) → is_number s ≡ true → width_of s ≡ s.len
width-is s h = width_cases (eqb s.len 2) (eqb s.len 4) s.len refl refl h

lifetimes_table : (hold : ℕ) (frame : List ℕ) (ss : List Span) → AllByRecursion (IsNumber (length frame)) ss → list_all is_number ss ≡ true
    → lifetime_tree hold frame ss ≡ when (list_all (lasts hold frame) ss) drops
lifetimes_table hold frame [] h k = refl
lifetimes_table hold frame (s ∷ ss) h k =
    let parts = and_parts (is_number s) (list_all is_number ss) k in
    ap (λ (w : ℕ). reading (field frame s.at w) (λ v. cond (nat_lt v hold) Silent (lifetime_tree hold frame ss))) (width-is s parts.0)
    ∙ number_there frame s.at s.len (λ v. cond (nat_lt v hold) Silent (lifetime_tree hold frame ss)) h.0.within
    ∙ away_cases (nat_lt (number_in frame s) hold) (lifetime_tree hold frame ss) (when (list_all (lasts hold frame) ss) drops) (λ e. lifetimes_table hold frame ss h.1 parts.1)
    ∙ ap (λ (t : Bool). when t (when (list_all (lasts hold frame) ss) drops)) (not-below hold (number_in frame s))
    ∙ when_and (lasts hold frame s) (list_all (lasts hold frame) ss) drops

pub length-section : (bytes : List ℕ) (s : Span) → s.at + s.len ≤ length bytes → length (section_bytes bytes s) ≡ s.len
length-section bytes s fits =
    let k : s.at + s.len - s.at ≡ s.len = omega arith in
    omega (arith, length-take (s.at + s.len - s.at) (drop s.at bytes), length-drop s.at bytes)

not_not : (t : Bool) (r : Ruling) → when (not (not t)) r ≡ when t r
not_not true r = refl
not_not false r = refl

sections_table : (bytes frame : List ℕ) (ss : List Span) (a : Ruling) → length frame ≡ length bytes → AllByRecursion (IsSpanWithin (length bytes)) ss
    → section_tree bytes frame ss a ≡ when (list_all (is_equal frame bytes) ss) a
sections_table bytes frame [] a long h = refl
sections_table bytes frame (s ∷ ss) a long h =
    let fits : s.at + s.len ≤ length frame = omega (arith, h.0.within) in
    ap (λ (w : ℕ). reading (part frame s.at w) (λ there. cond (not (bytes_eq there (section_bytes bytes s))) Silent (section_tree bytes frame ss a))) (length-section bytes s h.0.within)
    ∙ part_there frame s.at s.len (λ there. cond (not (bytes_eq there (section_bytes bytes s))) Silent (section_tree bytes frame ss a)) fits
    ∙ away_cases (not (is_equal frame bytes s)) (section_tree bytes frame ss a) (when (list_all (is_equal frame bytes) ss) a) (λ e. sections_table bytes frame ss a long h.1)
    ∙ not_not (is_equal frame bytes s) (when (list_all (is_equal frame bytes) ss) a)
    ∙ when_and (is_equal frame bytes s) (list_all (is_equal frame bytes) ss) a

-- the lengths are equal before anything is compared
by_length : (t b : Bool) (a c : Ruling) → (t ≡ true → a ≡ when b c) → cond (not t) Silent a ≡ when (t && b) c
by_length true b a c e = e refl
by_length false b a c e = refl

abbrev whole_tree : ℕ → List ℕ → List Span → ℕ → List ℕ → Ruling
whole_tree hold bytes lifetimes age frame =
    cond (nat_lt hold age) Silent
    (cond (not (length frame == length bytes)) Silent
    (section_tree bytes frame (sections_of bytes lifetimes) (lifetime_tree hold frame lifetimes)))

three : (a b c : Bool) (r : Ruling) → when a (when b (when c r)) ≡ when (a && (b && c)) r
three true b c r = when_and b c r
three false b c r = refl

same_by_sections : (bytes frame : List ℕ) (lifetimes : List Span) (hold : ℕ) → IsSound bytes lifetimes → length frame ≡ length bytes
    → section_tree bytes frame (sections_of bytes lifetimes) (lifetime_tree hold frame lifetimes) ≡ when (same_outside (masks lifetimes) 0 frame bytes) (when (list_all (lasts hold frame) lifetimes) drops)
same_by_sections bytes frame lifetimes hold h long =
    let rise = masks_rise bytes lifetimes h in
    sections_table bytes frame (sections_of bytes lifetimes) (lifetime_tree hold frame lifetimes) long (between_within (masks lifetimes) 0 (length bytes) rise)
    ∙ ap (λ (b : Bool). when b (lifetime_tree hold frame lifetimes)) (sym (same-sections (masks lifetimes) frame bytes long rise))
    ∙ ap (λ (r : Ruling). when (same_outside (masks lifetimes) 0 frame bytes) r)
    (lifetimes_table hold frame lifetimes (subst (λ (k : ℕ). AllByRecursion (IsNumber k) lifetimes) (sym long) (numbers lifetimes 58 (length bytes) h.rising h.numbers)) h.numbers)

whole_table : (c : Chosen) (age : ℕ) (frame : List ℕ) → IsSound c.advert.bytes c.advert.lifetimes → whole_tree c.hold c.advert.bytes c.advert.lifetimes age frame ≡ advertised_again c age frame
unfolding same
whole_table c age frame h =
    let bytes : List ℕ = c.advert.bytes in
    let lifetimes : List Span = c.advert.lifetimes in
    let all : Bool = list_all (lasts c.hold frame) c.advert.lifetimes in
    away_cases (nat_lt c.hold age) _ (when (same c.advert frame) (when (list_all (lasts c.hold frame) c.advert.lifetimes) drops)) (λ young.
    by_length (length frame == length c.advert.bytes) (same_outside (masks c.advert.lifetimes) 0 frame c.advert.bytes) _ (when (list_all (lasts c.hold frame) c.advert.lifetimes) drops) (λ t.
    same_by_sections c.advert.bytes frame c.advert.lifetimes c.hold h (eqb-true (length frame) (length c.advert.bytes) t)))
    ∙ ap (λ (t : Bool). when t (when (same c.advert frame) (when (list_all (lasts c.hold frame) c.advert.lifetimes) drops))) (not-below age c.hold)
    ∙ three (nat_le age c.hold) (same c.advert frame) (list_all (lasts c.hold frame) c.advert.lifetimes) drops

-- ---- no label stands among the items

away_sections : (l away : ℕ) (bytes : List ℕ) (ss : List Span) (tail : List Item) → stands l tail ≡ false → stands l (flat_map (section_items away bytes) ss ++ tail) ≡ false
unfolding stands
away_sections l away bytes [] tail e = e
away_sections l away bytes (s ∷ ss) tail e = away_sections l away bytes ss tail e

away_lifetimes : (l away hold : ℕ) (ss : List Span) (tail : List Item) → stands l tail ≡ false → stands l (flat_map (lifetime_items away hold) ss ++ tail) ≡ false
unfolding stands
away_lifetimes l away hold [] tail e = e
away_lifetimes l away hold (s ∷ ss) tail e = away_lifetimes l away hold ss tail e

away_dropping : (l : ℕ) → stands l dropping_items ≡ false
unfolding stands
away_dropping l = refl

-- ---- the items come to it

module _ (n : ℕ) (frame : List ℕ) (m : State) (away : ℕ) where
  dropping : (r0 r1 : ℕ) → 2 ≤ away → Yields rulings n frame m r0 r1 drops (dropping_items ++ (items.Label away ∷ []))
  dropping r0 r1 le =
      counts rulings n frame m r0 r1 DroppedRa _ _
      (answers rulings n frame m r0 Drop DroppedRa Silent _
      (labelled rulings n frame m r0 _ away Silent [] le (done rulings n frame m r0 _)))

  reads_either : (two : Bool) (r0 r1 at : ℕ) (k : ℕ → Ruling) (xs : List Item) → ((v : ℕ) → Yields rulings n frame m v r1 (k v) xs)
      → Yields rulings n frame m r0 r1 (reading (field frame at (cond two 2 4)) k) (fixed (cond two Ldh Ldw) 0 2 at ∷ xs)
  reads_either true r0 r1 at k xs more = reads_half rulings n frame m r0 r1 2 at k xs (field frame at 2) (number_seen frame at 2) more
  reads_either false r0 r1 at k xs more = reads_word rulings n frame m r0 r1 2 at k xs (field frame at 4) (number_seen frame at 4) more

  all_lifetimes : (hold r0 r1 : ℕ) (ss : List Span) → 2 ≤ away
      → Yields rulings n frame m r0 r1 (lifetime_tree hold frame ss) ((flat_map (lifetime_items away hold) ss ++ dropping_items) ++ (items.Label away ∷ []))
  all_lifetimes hold r0 r1 [] le = dropping r0 r1 le
  all_lifetimes hold r0 r1 (s ∷ ss) le =
      reads_either (s.len == 2) r0 r1 s.at _ _ (λ v.
      leaves_if rulings n frame m Jlt hold away v r1 (lifetime_tree hold frame ss) Silent (flat_map (lifetime_items away hold) ss ++ dropping_items) [] refl
      (away_lifetimes away away hold ss dropping_items (away_dropping away))
      (all_lifetimes hold v r1 ss le)
      (λ q0 q1. done rulings n frame m q0 q1))

  all_sections : (bytes : List ℕ) (r0 r1 : ℕ) (ss : List Span) (a : Ruling) (tail : List Item) → length bytes ≤ 1514 → AllByRecursion (IsSpanWithin (length bytes)) ss → stands away tail ≡ false
      → ((q0 q1 : ℕ) → Yields rulings n frame m q0 q1 a (tail ++ (items.Label away ∷ [])))
      → Yields rulings n frame m r0 r1 (section_tree bytes frame ss a) ((flat_map (section_items away bytes) ss ++ tail) ++ (items.Label away ∷ []))
  all_sections bytes r0 r1 [] a tail short h apart y = y r0 r1
  all_sections bytes r0 r1 (s ∷ ss) a tail short h apart y =
      places rulings n frame m r0 r1 2 s.at _ _ (omega (arith, h.0.within, h.0.some))
      (leaves_unless rulings n frame m s.at r1 away (section_bytes bytes s) (section_tree bytes frame ss a) Silent (flat_map (section_items away bytes) ss ++ tail) []
      (part frame s.at (length (section_bytes bytes s))) (bytes_seen frame s.at (length (section_bytes bytes s)))
      (omega (arith, length-section bytes s h.0.within, h.0.some))
      (away_sections away away bytes ss tail apart)
      (all_sections bytes s.at r1 ss a tail short h.1 apart y)
      (λ q0 q1. done rulings n frame m q0 q1))

  all_items : (c : Chosen) (age r0 r1 : ℕ) → 2 ≤ away → IsSound c.advert.bytes c.advert.lifetimes → get_or m.slots 15 0 ≡ age → get_or m.slots 14 0 ≡ length frame
      → Yields rulings n frame m r0 r1 (whole_tree c.hold c.advert.bytes c.advert.lifetimes age frame) (ra_items away c)
  unfolding stands
  all_items c age r0 r1 le h aged long =
      let apart : stands away (compare_items away c) ≡ false =
      away_sections away away c.advert.bytes (sections c.advert) (flat_map (lifetime_items away c.hold) c.advert.lifetimes ++ dropping_items)
      (away_lifetimes away away c.hold c.advert.lifetimes dropping_items (away_dropping away)) in
      recalls_0 rulings n frame m 1 15 age r0 r1 _ _ refl aged
      (leaves_if rulings n frame m Jgt c.hold away age r1 _ Silent (fixed Ext 0 1 14 ∷ jump_if Jne (length c.advert.bytes) (targets.Label away) ∷ compare_items away c) [] refl apart
      (recalls_0 rulings n frame m 1 14 (length frame) age r1 _ _ refl long
      (leaves_if rulings n frame m Jne (length c.advert.bytes) away (length frame) r1 _ Silent (compare_items away c) [] refl apart
      (all_sections c.advert.bytes (length frame) r1 (sections c.advert) (lifetime_tree c.hold frame c.advert.lifetimes)
      (flat_map (lifetime_items away c.hold) c.advert.lifetimes ++ dropping_items) h.short
      (between_within (masks c.advert.lifetimes) 0 (length c.advert.bytes) (masks_rise c.advert.bytes c.advert.lifetimes h))
      (away_lifetimes away away c.hold c.advert.lifetimes dropping_items (away_dropping away))
      (λ q0 q1. all_lifetimes c.hold q0 q1 c.advert.lifetimes le))
      (λ q0 q1. done rulings n frame m q0 q1)))
      (λ q0 q1. done rulings n frame m q0 q1))

pub ra_tells : (c : Chosen) (away : ℕ) → 2 ≤ away → IsSound c.advert.bytes c.advert.lifetimes → TellsSaid (λ age frame. said_of (advertised_again c age frame)) (ra_items away c)
ra_tells c away le h = told rulings (λ age frame. advertised_again c age frame) _ (λ n frame age m ready.
    restated rulings n frame m m.r0 m.r1 _ _ _ (whole_table c age frame h)
    (all_items n frame m away c age m.r0 m.r1 le h (ap (λ (slots : List ℕ). get_or slots 15 0) ready.slots) (ap (λ (slots : List ℕ). get_or slots 14 0) ready.slots)))
