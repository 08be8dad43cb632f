-- The form of the items of a record.
use Rattle.std.proofs.Common.{◌≡◌, ℕ, zero, suc, ◌+◌, ◌-◌, ◌*◌, ◌<◌, ◌≤◌, ◌^◌, Bool, true, false, cond, List, [], ◌∷◌, ◌++◌, length, get_or, take, drop, refl, sym, ap, subst, ◌∙◌, arith, lit<, inl, inr, flat_map}
use Rattle.std.specs.List.{AllByRecursion, sum_by}
use Rattle.std.specs.Prelude.{◌==◌, slice_index}
use Rattle.std.proofs.lemmas.List.Sums.{sum_by-cons}
use Rattle.apf_coding.specs.declared.instruction.Op.TheVariants.{Ldh, Ldw, Li, Jgt, Jne, Jlt, Ext}
use Rattle.apf_coding.specs.declared.machine.Verdict.TheVariants.{Drop}
use Rattle.apf_coding.specs.Jumps.{is_jump}
use Rattle.apf_asm.specs.declared.item.Item.{Item}
use Rattle.apf_asm.specs.declared.item.Item.TheVariants as items
use Rattle.apf_asm.specs.declared.item.Target.TheVariants as targets
use Rattle.apf_asm.specs.Layout.{wide_size, wide_length}
use Rattle.data_counters.specs.declared.counter.Counter.TheVariants.{DroppedRa}
use Rattle.data_counters.specs.Counters.{number_of}
use Rattle.ra_records.specs.declared.span.Span.{Span}
use Rattle.ra_records.specs.Masks.{IsSpanWithin, IsNumber}
use Rattle.ra_records.specs.Advert.{masks, sections, IsSound as IsRecord}
use Rattle.ra_records.proofs.Rising.{masks_rise, between_within, numbers}
use Rattle.policy_state.specs.declared.basis.Chosen.{Chosen}
use Rattle.policy_state.specs.Records.{advertised_again}
use Rattle.size_fit.specs.Sizes.{section_weight, weight}
use Rattle.apf_asm.specs.Building.{fixed, jump_if, jump_unless}
use Rattle.apf_asm.specs.Fragment.{AreFresh, IsFragment, Emits, labels}
use Rattle.policy_state.specs.Rulings.{said_of}
use Rattle.apf_asm.proofs.Forms.{IsSound, stands-here, sound-nil, sound-fixed, sound-byte, sound-if_label, sound-unless_label, sound-jump_end, sound-label, sound-count}
use Rattle.apf_asm.proofs.Parts.{wide-append, fragment-of}
use Rattle.policy_state.proofs.Rulings.{has_word}
use Rattle.apf_generate.specs.RaListing.{section_bytes, section_items, load_of, lifetime_items, dropping_items, compare_items, ra_items}
use Rattle.apf_generate.proofs.RaRuling.{length-section, ra_tells}

-- ---- bytes

each-drop : (a : ℕ) (xs : List ℕ) → ((k : ℕ) → get_or xs k 0 < 256) → (k : ℕ) → get_or (drop a xs) k 0 < 256
each-drop zero xs h k = h k
each-drop (suc a) [] h k = lit< tt
each-drop (suc a) (x ∷ xs) h k = each-drop a xs (λ i. h (suc i)) k

each-take : (n : ℕ) (xs : List ℕ) → ((k : ℕ) → get_or xs k 0 < 256) → (k : ℕ) → get_or (take n xs) k 0 < 256
each-take zero xs h k = lit< tt
each-take (suc n) [] h k = lit< tt
each-take (suc n) (x ∷ xs) h zero = h zero
each-take (suc n) (x ∷ xs) h (suc k) = each-take n xs (λ i. h (suc i)) k

each-section : (bytes : List ℕ) (s : Span) → ((k : ℕ) → slice_index bytes k < 256) → (k : ℕ) → slice_index (section_bytes bytes s) k < 256
each-section bytes s h k = each-take (s.at + s.len - s.at) (drop s.at bytes) (each-drop s.at bytes h) k

-- ---- each item is sound

load_jumps : (two : Bool) → is_jump (cond two Ldh Ldw) ≡ false
load_jumps true = refl
load_jumps false = refl

sound-dropping : (away : ℕ) → IsSound (dropping_items ++ (items.Label away ∷ []))
sound-dropping away = sound-count (number_of DroppedRa) _ (has_word DroppedRa) (sound-jump_end Drop _ (sound-label away [] sound-nil))

sound-lifetimes : (away hold end : ℕ) (ss : List Span) → hold < 2 ^ 32 → end ≤ 1514 → AllByRecursion (IsNumber end) ss → IsSound ((flat_map (lifetime_items away hold) ss ++ dropping_items) ++ (items.Label away ∷ []))
sound-lifetimes away hold end [] lt short h = sound-dropping away
sound-lifetimes away hold end (s ∷ ss) lt short h =
    sound-fixed (load_of s) 0 2 s.at _ (load_jumps (s.len == 2)) (lit< tt) (inr (inr (inl refl))) (omega (arith, h.0.within))
    (sound-if_label Jlt hold away _ refl lt (stands-here away (flat_map (lifetime_items away hold) ss ++ dropping_items) [])
    (sound-lifetimes away hold end ss lt short h.1))

sound-sections : (away : ℕ) (bytes : List ℕ) (ss : List Span) (tail : List Item) → length bytes ≤ 1514 → ((k : ℕ) → slice_index bytes k < 256) → AllByRecursion (IsSpanWithin (length bytes)) ss → IsSound (tail ++ (items.Label away ∷ []))
    → IsSound ((flat_map (section_items away bytes) ss ++ tail) ++ (items.Label away ∷ []))
sound-sections away bytes [] tail short each h s = s
sound-sections away bytes (x ∷ ss) tail short each h s =
    sound-fixed Li 0 2 x.at _ refl (lit< tt) (inr (inr (inl refl))) (omega (arith, h.0.within))
    (sound-unless_label (section_bytes bytes x) away _ (omega (arith, length-section bytes x h.0.within, h.0.some)) (omega (arith, length-section bytes x h.0.within, h.0.within)) (each-section bytes x each)
    (stands-here away (flat_map (section_items away bytes) ss ++ tail) [])
    (sound-sections away bytes ss tail short each h.1 s))

all_within : (c : Chosen) → IsRecord c.advert.bytes c.advert.lifetimes → AllByRecursion (IsSpanWithin (length c.advert.bytes)) (sections c.advert)
all_within c h = between_within (masks c.advert.lifetimes) 0 (length c.advert.bytes) (masks_rise c.advert.bytes c.advert.lifetimes h)

sound-ra : (away : ℕ) (c : Chosen) → c.hold < 2 ^ 32 → ((k : ℕ) → slice_index c.advert.bytes k < 256) → IsRecord c.advert.bytes c.advert.lifetimes → IsSound (ra_items away c)
sound-ra away c lt each h =
    sound-byte Ext 0 15 _ refl (lit< tt) (lit< tt)
    (sound-if_label Jgt c.hold away _ refl lt (stands-here away (fixed Ext 0 1 14 ∷ jump_if Jne (length c.advert.bytes) (targets.Label away) ∷ compare_items away c) [])
    (sound-byte Ext 0 14 _ refl (lit< tt) (lit< tt)
    (sound-if_label Jne (length c.advert.bytes) away _ refl (omega (arith, h.short)) (stands-here away (compare_items away c) [])
    (sound-sections away c.advert.bytes (sections c.advert) (flat_map (lifetime_items away c.hold) c.advert.lifetimes ++ dropping_items) h.short each (all_within c h)
    (sound-lifetimes away c.hold (length c.advert.bytes) c.advert.lifetimes lt h.short (numbers c.advert.lifetimes 58 (length c.advert.bytes) h.rising h.numbers))))))

-- ---- sizes

size-load : (two : Bool) (at : ℕ) → wide_size (fixed (cond two Ldh Ldw) 0 2 at) ≡ 3
size-load true at = refl
size-load false at = refl

wide-lifetimes : (away hold : ℕ) (ss : List Span) → wide_length (flat_map (lifetime_items away hold) ss) ≡ 12 * length ss
wide-lifetimes away hold [] = refl
wide-lifetimes away hold (s ∷ ss) =
    omega (
      arith,
      sum_by-cons wide_size (fixed (load_of s) 0 2 s.at) (jump_if Jlt hold (targets.Label away) ∷ flat_map (lifetime_items away hold) ss),
      sum_by-cons wide_size (jump_if Jlt hold (targets.Label away)) (flat_map (lifetime_items away hold) ss),
      size-load (s.len == 2) s.at,
      wide-lifetimes away hold ss,
    )

wide-sections : (away : ℕ) (bytes : List ℕ) (ss : List Span) → AllByRecursion (IsSpanWithin (length bytes)) ss → wide_length (flat_map (section_items away bytes) ss) ≡ sum_by section_weight ss
wide-sections away bytes [] h = refl
wide-sections away bytes (s ∷ ss) h =
    omega (
      arith,
      sum_by-cons wide_size (fixed Li 0 2 s.at) (jump_unless (section_bytes bytes s) (targets.Label away) ∷ flat_map (section_items away bytes) ss),
      sum_by-cons wide_size (jump_unless (section_bytes bytes s) (targets.Label away)) (flat_map (section_items away bytes) ss),
      wide-sections away bytes ss h.1,
      length-section bytes s h.0.within,
      sum_by-cons section_weight s ss,
    )

wide-ra : (away : ℕ) (c : Chosen) → IsRecord c.advert.bytes c.advert.lifetimes → wide_length (ra_items away c) ≡ weight c.advert
wide-ra away c h =
    let front : List Item = fixed Ext 0 1 15 ∷ jump_if Jgt c.hold (targets.Label away) ∷ fixed Ext 0 1 14 ∷ jump_if Jne (length c.advert.bytes) (targets.Label away) ∷ [] in
    omega (
      arith,
      wide-append (fixed Ext 0 1 15 ∷ jump_if Jgt c.hold (targets.Label away) ∷ fixed Ext 0 1 14 ∷ jump_if Jne (length c.advert.bytes) (targets.Label away) ∷ []) (compare_items away c ++ (items.Label away ∷ [])),
      wide-append (compare_items away c) (items.Label away ∷ []),
      wide-append (flat_map (section_items away c.advert.bytes) (sections c.advert)) (flat_map (lifetime_items away c.hold) c.advert.lifetimes ++ dropping_items),
      wide-append (flat_map (lifetime_items away c.hold) c.advert.lifetimes) dropping_items,
      wide-sections away c.advert.bytes (sections c.advert) (all_within c h),
      wide-lifetimes away c.hold c.advert.lifetimes,
    )

-- ---- labels

labels-lifetimes : (away hold : ℕ) (ss : List Span) (tail : List Item) → labels ((flat_map (lifetime_items away hold) ss ++ dropping_items) ++ tail) ≡ labels tail
unfolding labels
labels-lifetimes away hold [] tail = refl
labels-lifetimes away hold (s ∷ ss) tail = labels-lifetimes away hold ss tail

labels-sections : (away : ℕ) (bytes : List ℕ) (ss : List Span) (tail more : List Item) → labels ((flat_map (section_items away bytes) ss ++ tail) ++ more) ≡ labels (tail ++ more)
unfolding labels
labels-sections away bytes [] tail more = refl
labels-sections away bytes (s ∷ ss) tail more = labels-sections away bytes ss tail more

labels-ra : (away : ℕ) (c : Chosen) → labels (ra_items away c) ≡ away ∷ []
unfolding labels
labels-ra away c =
    labels-sections away c.advert.bytes (sections c.advert) (flat_map (lifetime_items away c.hold) c.advert.lifetimes ++ dropping_items) (items.Label away ∷ [])
    ∙ labels-lifetimes away c.hold c.advert.lifetimes (items.Label away ∷ [])

fresh-one : (next : ℕ) (ls : List ℕ) → ls ≡ next ∷ [] → AreFresh next (next + 1) ls
fresh-one next ls e = rw e (omega arith, omega arith, tt, tt)

-- ---- the fragment

ra_fragment : (next : ℕ) (c : Chosen) → c.hold < 2 ^ 32 → ((k : ℕ) → slice_index c.advert.bytes k < 256) → IsRecord c.advert.bytes c.advert.lifetimes → IsFragment next (next + 1) (weight c.advert) (ra_items next c)
ra_fragment next c lt each h =
    fragment-of next (next + 1) (weight c.advert) (ra_items next c)
    (sound-ra next c lt each h)
    (omega arith)
    (fresh-one next _ (labels-ra next c))
    (omega (arith, ap length (labels-ra next c)))
    (omega (arith, wide-ra next c h))

pub ra_emitted : (c : Chosen) (next to : ℕ) (old new : List Item) → new ≡ old ++ ra_items next c → c.hold < 2 ^ 32 → ((k : ℕ) → slice_index c.advert.bytes k < 256) → IsRecord c.advert.bytes c.advert.lifetimes → 2 ≤ next → to ≡ next + 1
    → Emits (λ age frame. said_of (advertised_again c age frame)) (weight c.advert) next to old new
ra_emitted c next to old new e lt each h le rises = record {
  fragment = ra_items next c;
  appended = e;
  part = record {
    form = subst (λ (t : ℕ). IsFragment next t (weight c.advert) (ra_items next c)) (sym rises) (ra_fragment next c lt each h);
    tells = ra_tells c next le h;
  };
  few = omega arith;
}
