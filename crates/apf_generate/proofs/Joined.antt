-- The emitted fragments and the items of the other questions answer all questions, between the opening and the ends.
use Rattle.std.proofs.Common.{◌≡◌, ℕ, ◌+◌, ◌*◌, ◌≤◌, List, ◌++◌, length, sym, ap, ◌∙◌, append_assoc, arith}
use Rattle.std.specs.Prelude.{count_by, is_some}
use Rattle.apf_asm.specs.declared.item.Item.{Item}
use Rattle.policy_state.specs.declared.basis.Basis.{Basis}
use Rattle.policy_state.specs.declared.ruling.Ruling.{Ruling}
use Rattle.policy_state.specs.declared.ruling.Ruling.TheVariants.{Silent}
use Rattle.policy_state.specs.Asking.{otherwise}
use Rattle.policy_state.specs.Policy.{link, arp, ip4, ip6, others}
use Rattle.policy_state.proofs.AskingLaws.{otherwise-silent}
use Rattle.apf_asm.specs.Fragment.{Emits}
use Rattle.apf_coding.proofs.Language.{said_first}
use Rattle.apf_asm.proofs.Parts.{part-then, part-same}
use Rattle.policy_state.specs.Rulings.{said_of}
use Rattle.policy_state.proofs.Rulings.{said-otherwise}
use Rattle.apf_generate.specs.Listing.{opening_items, last_items, end_items}
use Rattle.apf_generate.specs.Program.{asked, most_asked, AddsIp6, IsProgram}
use Rattle.apf_generate.specs.Sizes.{weights}
use Rattle.apf_generate.proofs.Others.{others_part}
use Rattle.policy_state.specs.Rooms.{arp_room, ip4_room, ip6_room, last_room, link_room}
use Rattle.policy_state.specs.Weights.{denied_weight, keepalive_weight}

-- what is said question by question is what all questions say
all_said : (a b c d e : Ruling) → said_first (said_of a) (said_first (said_of b) (said_first (said_of c) (said_first (said_of d) (said_of e)))) ≡ said_of (otherwise a (otherwise b (otherwise c (otherwise d (otherwise e Silent)))))
all_said a b c d e =
    let last : said_of e ≡ said_of (otherwise e Silent) = ap said_of (sym (otherwise-silent e)) in
    let from_d = ap (said_first (said_of d)) last ∙ sym (said-otherwise d (otherwise e Silent)) in
    let from_c = ap (said_first (said_of c)) from_d ∙ sym (said-otherwise c (otherwise d (otherwise e Silent))) in
    let from_b = ap (said_first (said_of b)) from_c ∙ sym (said-otherwise b (otherwise c (otherwise d (otherwise e Silent)))) in
    ap (said_first (said_of a)) from_b ∙ sym (said-otherwise a (otherwise b (otherwise c (otherwise d (otherwise e Silent)))))

asked_said : (basis : Basis) (age : ℕ) (frame : List ℕ)
    → said_first (said_of (link basis frame)) (said_first (said_of (arp basis frame)) (said_first (said_of (ip4 basis frame)) (said_first (said_of (ip6 basis age frame)) (said_of (others frame))))) ≡ asked basis age frame
asked_said basis age frame = all_said (link basis frame) (arp basis frame) (ip4 basis frame) (ip6 basis age frame) (others frame)

regrouped : (o f g i h k e : List Item) → ((((((o ++ f) ++ g) ++ i) ++ h) ++ k) ++ e) ≡ o ++ ((f ++ (g ++ (i ++ (h ++ k)))) ++ e)
regrouped o f g i h k e = simp append_assoc

chained : (o f g i h k e x0 x1 x2 x3 x4 x5 x6 : List Item) → x0 ≡ o → x1 ≡ x0 ++ f → x2 ≡ x1 ++ g → x3 ≡ x2 ++ i → x4 ≡ x3 ++ h → x5 ≡ x4 ++ k → x6 ≡ x5 ++ e → x6 ≡ (((((o ++ f) ++ g) ++ i) ++ h) ++ k) ++ e
chained o f g i h k e x0 x1 x2 x3 x4 x5 x6 start p q r s t u = cc

pub joined : (basis : Basis) (two three four to : ℕ) (x0 x1 x2 x3 x4 x5 x6 : List Item) → x0 ≡ opening_items
    → Emits (λ age frame. said_of (link basis frame)) (link_room + denied_weight * length basis.config.deny) 2 two x0 x1
    → Emits (λ age frame. said_of (arp basis frame)) arp_room two three x1 x2
    → Emits (λ age frame. said_of (ip4 basis frame)) (ip4_room + keepalive_weight * count_by is_some basis.state.keepalives) three four x2 x3
    → AddsIp6 basis four to x3 x4
    → x5 ≡ x4 ++ last_items → x6 ≡ x5 ++ end_items → length basis.chosen ≤ 1000 → IsProgram basis x6
joined basis two three four to x0 x1 x2 x3 x4 x5 x6 start first second third fifth last ends records =
    let from_two : 2 ≤ two = first.part.form.rises in
    let from_three : two ≤ three = second.part.form.rises in
    let from_four : three ≤ four = third.part.form.rises in
    let n = length basis.config.deny in
    let a = ip4_room + keepalive_weight * count_by is_some basis.state.keepalives in
    let w = weights basis.chosen in
    let from_ip6 = part-then _ _ four to to (ip6_room + w) last_room fifth.question last_items (omega arith) fifth.part (others_part to) in
    let from_ip4 = part-then _ _ three four to a (ip6_room + w + last_room) third.fragment (fifth.question ++ last_items) (omega arith) third.part from_ip6 in
    let from_arp = part-then _ _ two three to arp_room (a + (ip6_room + w + last_room)) second.fragment (third.fragment ++ (fifth.question ++ last_items)) from_two second.part from_ip4 in
    let all = part-then _ _ 2 two to (link_room + denied_weight * n) (arp_room + (a + (ip6_room + w + last_room))) first.fragment (second.fragment ++ (third.fragment ++ (fifth.question ++ last_items))) (omega arith) first.part from_arp in
    record {
      questions = first.fragment ++ (second.fragment ++ (third.fragment ++ (fifth.question ++ last_items)));
      holds = record {
        to = to;
        few = omega (arith, first.few, second.few, third.few, fifth.few);
        part = part-same _ (asked basis) 2 to _ (most_asked basis) _ (asked_said basis) (omega arith) all;
      };
      whole = chained opening_items first.fragment second.fragment third.fragment fifth.question last_items end_items x0 x1 x2 x3 x4 x5 x6 start first.appended second.appended third.appended fifth.appended last ends
          ∙ regrouped opening_items first.fragment second.fragment third.fragment fifth.question last_items end_items;
    }
