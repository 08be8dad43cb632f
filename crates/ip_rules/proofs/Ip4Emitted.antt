-- What was emitted for IPv4 is a fragment that says what its question answers.
use Rattle.std.proofs.Common.{◌≡◌, ℕ, ◌+◌, ◌*◌, ◌≤◌, true, List, [], ◌++◌, refl, sym, ap, subst, ◌∙◌, arith}
use Rattle.std.specs.Prelude.{count_by, is_some}
use Rattle.apf_asm.specs.declared.item.Item.{Item}
use Rattle.policy_state.specs.declared.basis.Basis.{Basis}
use Rattle.policy_state.specs.Ip4.{keepalive_answers}
use Rattle.policy_state.specs.Policy.{ip4}
use Rattle.apf_asm.specs.Fragment.{Emits, IsPart}
use Rattle.policy_state.specs.Rulings.{said_of}
use Rattle.apf_asm.proofs.Parts.{fresh-above, part-same}
use Rattle.policy_state.specs.Ranges.{IsMac}
use Rattle.ip_rules.specs.Ip4Listing.{ip4_items, IsNetInRange}
use Rattle.ip_rules.proofs.Ip4Form.{packet_fragment, ip4_fragment}
use Rattle.ip_rules.proofs.Ip4Ruling.{packet_items, ip4_tells}
use Rattle.policy_state.specs.Rooms.{ip4_room}
use Rattle.policy_state.specs.Weights.{keepalive_weight}

-- the items of the keepalives stand alone before they are put into the packet's
pub ip4_emitted : (basis : Basis) (next label : ℕ) (none keepalives old new : List Item) → none ≡ [] → 2 ≤ next
    → Emits (λ age frame. said_of (keepalive_answers basis frame)) (keepalive_weight * count_by is_some basis.state.keepalives) next label none keepalives
    → (basis.state.multicast ≡ true → IsMac basis.config.mac) → (basis.state.multicast ≡ true → IsNetInRange basis.state.address)
    → new ≡ old ++ ip4_items basis label keepalives → label ≤ next + 9
    → Emits (λ age frame. said_of (ip4 basis frame)) (ip4_room + keepalive_weight * count_by is_some basis.state.keepalives) next (label + 3) old new
ip4_emitted basis next label none keepalives old new empty le made is_mac fits e few =
    let most = keepalive_weight * count_by is_some basis.state.keepalives in
    let same : made.fragment ≡ keepalives = sym (made.appended ∙ ap (λ (xs : List Item). xs ++ made.fragment) empty) in
    let x : IsPart (λ age frame. said_of (keepalive_answers basis frame)) next label most keepalives = subst (λ (xs : List Item). IsPart (λ age frame. said_of (keepalive_answers basis frame)) next label most xs) same made.part in
    let up : next ≤ label = x.form.rises in
    let apart = fresh-above next (label + 2) (label + 2) (packet_items basis label keepalives) (packet_fragment basis next label most keepalives x.form is_mac fits).fresh (omega arith) in
    let whole : IsPart (λ age frame. said_of (ip4 basis frame)) next (label + 2 + 1) (11 + (100 + (most + 90))) (ip4_items basis label keepalives) = record {
      form = ip4_fragment basis next label most keepalives x.form is_mac fits;
      tells = ip4_tells basis next label most keepalives le is_mac x apart;
    } in
    let three : label + 2 + 1 ≡ label + 3 = omega arith in
    record {
      fragment = ip4_items basis label keepalives;
      appended = e;
      part = subst (λ (to : ℕ). IsPart (λ age frame. said_of (ip4 basis frame)) next to (ip4_room + most) (ip4_items basis label keepalives)) three
          (part-same _ _ next (label + 2 + 1) _ (ip4_room + most) _ (λ age frame. refl) (omega arith) whole);
      few = omega arith;
    }
