-- There is a program for each basis whose numbers lie in their ranges, and that has room: the items of its questions one
-- behind the other, between the ends, assembled. No call stands here, and so no want of memory.
use Rattle.std.proofs.Common.{◌≡◌, ℕ, ◌+◌, ◌-◌, ◌*◌, ◌<◌, ◌≤◌, ◌^◌, Bool, true, false, List, [], ◌∷◌, ◌++◌, length, map, Option, Some, None, refl, sym, subst, arith, lit≤, pow_mono, pow_pos}
use Rattle.std.specs.Prelude.{All, IfSome, count_by, is_some}
use Rattle.std.specs.List.{list_any}
use Rattle.std.proofs.lemmas.List.Elements.{All-head, All-tail}
use Rattle.std.proofs.lemmas.List.Sums.{sum_by-cons, count_by-le-length}
use Rattle.std.proofs.lemmas.Nat.{or_of_32}
use Rattle.apf_asm.specs.declared.item.Item.{Item}
use Rattle.apf_asm.specs.declared.item.Item.TheVariants as items
use Rattle.apf_asm.specs.Layout.{layout}
use Rattle.ra_records.proofs.Walk.{sound}
use Rattle.policy_state.specs.declared.basis.Basis.{Basis}
use Rattle.policy_state.specs.declared.basis.Chosen.{Chosen}
use Rattle.policy_state.specs.declared.state.Address.{Address}
use Rattle.policy_state.specs.declared.state.Keepalive.{Keepalive}
use Rattle.policy_state.specs.Asking.{first_of}
use Rattle.policy_state.specs.Ip4.{keepalive_answers}
use Rattle.policy_state.specs.Policy.{link, arp, ip4}
use Rattle.apf_generate.specs.Ranges.{IsAddress, IsChosen, IsBasis}
use Rattle.apf_coding.specs.Words.{AreBytes}
use Rattle.policy_state.specs.Records.{advertised_again}
use Rattle.apf_asm.specs.Fragment.{Emits, IsPart}
use Rattle.policy_state.specs.Rulings.{said_of}
use Rattle.apf_coding.specs.Said.{Said}
use Rattle.apf_asm.proofs.Parts.{part-then, part-same}
use Rattle.policy_state.proofs.Rulings.{said-otherwise}
use Rattle.arp_rules.specs.Listing.{link_items, arp_items, IsAddressInRange}
use Rattle.arp_rules.proofs.Emitted.{link_emitted, arp_emitted}
use Rattle.ip_rules.specs.Ip4Listing.{slots_items, segment_items, ip4_items, IsNetInRange as IsNetInRange}
use Rattle.ip_rules.specs.Ip6Listing.{ip6_items}
use Rattle.ip_rules.proofs.Ip4Emitted.{ip4_emitted}
use Rattle.ip_rules.proofs.Ip6Emitted.{ip6_emitted}
use Rattle.ip_rules.proofs.KeepalivesEmitted.{none_emitted, some_emitted}
use Rattle.size_fit.specs.Sizes.{weight, limit_of}
use Rattle.apf_generate.specs.Listing.{opening_items, ip6_test_items, ip6_last_items, last_items, end_items}
use Rattle.apf_generate.specs.Means.{Means}
use Rattle.apf_generate.specs.Program.{AddsRecords, AddsIp6, IsProgram}
use Rattle.apf_generate.specs.RaListing.{ra_items}
use Rattle.apf_generate.specs.Sizes.{weights, need_of}
use Rattle.apf_generate.proofs.Chosen.{records_few, no_records}
use Rattle.apf_generate.proofs.Generated.{code_bytes, code_means, code_short}
use Rattle.apf_generate.proofs.Ip6Question.{ip6_added}
use Rattle.apf_generate.proofs.Joined.{joined}
use Rattle.apf_generate.proofs.RaForm.{ra_emitted}
use Rattle.policy_state.specs.Rooms.{arp_room, ip4_room, link_room}
use Rattle.policy_state.specs.Weights.{denied_weight, keepalive_weight}

-- ---- what the fragments ask of a basis

address_fits : (address : Option Address) → IfSome address IsAddress → IsAddressInRange address
address_fits None h = tt
address_fits (Some address) h = h.ip

host_bits : (p : ℕ) → p ≤ 32 → 2 ^ (32 - p) - 1 < 2 ^ 32
host_bits p le =
    let fewer : 32 - p ≤ 32 = omega arith in
    let most : 2 ^ (32 - p) ≤ 2 ^ 32 = pow_mono fewer in
    omega (arith, most, pow_pos (32 - p))

net_fits : (address : Option Address) → IfSome address IsAddress → IsNetInRange address
net_fits None h = tt
net_fits (Some address) h = λ lt. or_of_32 address.ip (2 ^ (32 - address.prefix) - 1) h.ip (host_bits address.prefix h.prefix)

-- ---- keepalives

-- items for the keepalives, up to a next label
record Answers (basis : Basis) (next : ℕ) : Type 0 where
  label : ℕ
  answers : List Item
  emits : Emits (λ age frame. said_of (keepalive_answers basis frame)) (keepalive_weight * count_by is_some basis.state.keepalives) next label [] answers
  few : label ≤ next + 9

keepalives_by : (any : Bool) (basis : Basis) (next : ℕ) → 2 ≤ next → length basis.state.keepalives ≡ 8 → list_any is_some basis.state.keepalives ≡ any → Answers basis next
keepalives_by false basis next le eight e = record { label = next; answers = []; emits = none_emitted basis next [] e; few = omega arith }
keepalives_by true basis next le eight e =
    let slots : List (Option Keepalive) = basis.state.keepalives in
    let k : ℕ = count_by is_some slots in
    let few : k ≤ 8 = omega (arith, count_by-le-length is_some slots, eight) in
    record {
      label = next + k + 1;
      answers = segment_items (next + k) (slots_items next slots);
      emits = some_emitted basis next (next + k) [] _ e le refl (omega arith) refl;
      few = omega arith;
    }

-- ---- records

-- record by record, each with a label
abbrev records_items : ℕ → List Chosen → List Item
records_items next [] = []
records_items next (one ∷ chosen) = ra_items next one ++ records_items (next + 1) chosen

alone : (said : ℕ → List ℕ → Said) (most from to : ℕ) (xs : List Item) → Emits said most from to [] xs → IsPart said from to most xs
alone said most from to xs x = subst (λ (ys : List Item). IsPart said from to most ys) (sym x.appended) x.part

moved : (said : ℕ → List ℕ → Said) (from to up most more : ℕ) (xs : List Item) → to ≡ up → most ≡ more → IsPart said from to most xs → IsPart said from up more xs
moved said from to up most more xs e d x = subst (λ (t : ℕ). IsPart said from t more xs) e (subst (λ (m : ℕ). IsPart said from to m xs) d x)

record_part : (one : Chosen) (next : ℕ) → 2 ≤ next → IsChosen one → IsPart (λ age frame. said_of (advertised_again one age frame)) next (next + 1) (weight one.advert) (ra_items next one)
record_part one next le h =
    alone _ (weight one.advert) next (next + 1) (ra_items next one)
    (ra_emitted one next (next + 1) [] (ra_items next one) refl h.hold h.advert.bytes (sound one.advert.bytes one.advert.lifetimes h.advert.read) le refl)

records_part : (next : ℕ) (chosen : List Chosen) → 2 ≤ next → All IsChosen chosen
    → IsPart (λ age frame. said_of (first_of (map (λ one. advertised_again one age frame) chosen))) next (next + length chosen) (weights chosen) (records_items next chosen)
records_part next [] le h = moved _ next next (next + 0) 0 (weights []) [] (omega arith) refl (no_records next)
records_part next (one ∷ chosen) le h =
    let n = length chosen in
    let first = record_part one next le (All-head IsChosen one chosen h) in
    let later = records_part (next + 1) chosen (omega arith) (All-tail IsChosen one chosen h) in
    let both = part-then _ _ next (next + 1) (next + 1 + n) (weight one.advert) (weights chosen) (ra_items next one) (records_items (next + 1) chosen) le first later in
    moved _ next (next + 1 + n) (next + length (one ∷ chosen)) _ _ _ (omega arith) refl
    (part-same _ (λ age frame. said_of (first_of (map (λ one. advertised_again one age frame) (one ∷ chosen)))) next (next + 1 + n) _ (weights (one ∷ chosen)) _
    (λ age frame. sym (said-otherwise (advertised_again one age frame) (first_of (map (λ one. advertised_again one age frame) chosen))))
    (omega (arith, sum_by-cons (λ (one : Chosen). weight one.advert) one chosen)) both)

records_added : (chosen : List Chosen) (from : ℕ) (old : List Item) → 2 ≤ from → All IsChosen chosen → AddsRecords chosen from (from + length chosen) old (old ++ records_items from chosen)
records_added chosen from old le h = record { rules = records_items from chosen; appended = refl; part = records_part from chosen le h; few = omega arith }

-- ---- question by question

module _ (basis : Basis) (h : IsBasis basis) (fits : need_of basis ≤ limit_of basis.config) where
  abbrev link_list : List Item
  link_list = opening_items ++ link_items basis

  abbrev arp_list : List Item
  arp_list = link_list ++ arp_items 2 basis.state.address

  link_there : Emits (λ age frame. said_of (link basis frame)) (link_room + denied_weight * length basis.config.deny) 2 2 opening_items link_list
  link_there = link_emitted basis 2 opening_items link_list refl h.config.deny

  arp_there : Emits (λ age frame. said_of (arp basis frame)) arp_room 2 4 link_list arp_list
  arp_there = arp_emitted basis 2 4 link_list arp_list refl (address_fits basis.state.address h.state.address) (lit≤ tt) refl

  keepalives : Answers basis 4
  keepalives = keepalives_by (list_any is_some basis.state.keepalives) basis 4 (lit≤ tt) h.state.slots refl

  -- the label of the question on IPv6
  abbrev over : ℕ
  over = keepalives.label + 3

  abbrev ip4_list : List Item
  ip4_list = arp_list ++ ip4_items basis keepalives.label keepalives.answers

  ip4_there : Emits (λ age frame. said_of (ip4 basis frame)) (ip4_room + keepalive_weight * count_by is_some basis.state.keepalives) 4 over arp_list ip4_list
  ip4_there =
      ip4_emitted basis 4 keepalives.label [] keepalives.answers arp_list ip4_list refl (lit≤ tt) keepalives.emits
      (λ on. h.config.mac) (λ on. net_fits basis.state.address h.state.address) refl keepalives.few

  abbrev test_list : List Item
  test_list = ip4_list ++ ip6_test_items over

  abbrev rules_list : List Item
  rules_list = test_list ++ ip6_items basis (over + 1)

  abbrev records_list : List Item
  records_list = rules_list ++ records_items (over + 1 + 3) basis.chosen

  abbrev ip6_list : List Item
  ip6_list = (records_list ++ ip6_last_items) ++ items.Label over ∷ []

  ip6_there : AddsIp6 basis over (over + 1 + 3 + length basis.chosen) ip4_list ip6_list
  ip6_there =
      ip6_added basis over (over + 1 + 3) (over + 1 + 3 + length basis.chosen) basis.chosen ip4_list test_list rules_list records_list (records_list ++ ip6_last_items) ip6_list
      (omega arith) refl
      (ip6_emitted basis (over + 1) (over + 1 + 3) test_list rules_list refl (omega arith) refl)
      refl
      (records_added basis.chosen (over + 1 + 3) rules_list (omega arith) h.chosen)
      refl refl

  few : length basis.chosen ≤ 1000
  few = omega (arith, records_few basis.chosen, basis.config.most, fits)

  abbrev question_list : List Item
  question_list = ip6_list ++ last_items

  abbrev program_list : List Item
  program_list = question_list ++ end_items

  is_program : IsProgram basis program_list
  is_program =
      joined basis 2 4 over (over + 1 + 3 + length basis.chosen) opening_items link_list arp_list ip4_list ip6_list question_list program_list
      refl link_there arp_there ip4_there ip6_there refl refl few

  abbrev code : List ℕ
  code = (layout program_list).bytes

  code-means : Means code basis
  code-means = code_means basis program_list basis.config.few basis.config.most is_program fits code refl

  code-short : length code ≤ need_of basis
  code-short = code_short basis program_list basis.config.few basis.config.most is_program fits code refl

  code-bytes : AreBytes code
  code-bytes = code_bytes basis program_list basis.config.few basis.config.most is_program fits code refl

pub program_exists : (basis : Basis) → IsBasis basis → need_of basis ≤ limit_of basis.config → (code : List ℕ) × Means code basis × (length code ≤ need_of basis) × AreBytes code
program_exists basis h fits = (code basis h fits, code-means basis h fits, code-short basis h fits, code-bytes basis h fits)
