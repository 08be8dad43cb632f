-- What was emitted is a fragment that says what its questions answer.
use Rattle.std.proofs.Common.{◌≡◌, ℕ, ◌+◌, ◌*◌, ◌<◌, ◌≤◌, ◌^◌, List, ◌++◌, length, sym, subst, arith}
use Rattle.std.specs.Prelude.{All}
use Rattle.apf_asm.specs.declared.item.Item.{Item}
use Rattle.policy_state.specs.declared.basis.Basis.{Basis}
use Rattle.policy_state.specs.Policy.{link, arp}
use Rattle.apf_asm.specs.Fragment.{Emits, IsFragment}
use Rattle.arp_rules.specs.Listing.{link_items, arp_items, IsAddressInRange}
use Rattle.policy_state.specs.Rulings.{said_of}
use Rattle.arp_rules.proofs.LinkRuling.{link_tells}
use Rattle.arp_rules.proofs.ArpRuling.{arp_tells}
use Rattle.arp_rules.proofs.Sound.{link_fragment, arp_fragment}
use Rattle.policy_state.specs.Rooms.{arp_room, link_room}
use Rattle.policy_state.specs.Weights.{denied_weight}

pub link_emitted : (basis : Basis) (next : ℕ) (old new : List Item) → new ≡ old ++ link_items basis → All (λ d. d < 2 ^ 16) basis.config.deny
    → Emits (λ age frame. said_of (link basis frame)) (link_room + denied_weight * length basis.config.deny) next next old new
link_emitted basis next old new e fits = record {
  fragment = link_items basis;
  appended = e;
  part = record { form = link_fragment basis next fits; tells = link_tells basis };
  few = omega arith;
}

pub arp_emitted : (basis : Basis) (next to : ℕ) (old new : List Item) → new ≡ old ++ arp_items next basis.state.address → IsAddressInRange basis.state.address → 2 ≤ next → to ≡ next + 2
    → Emits (λ age frame. said_of (arp basis frame)) arp_room next to old new
arp_emitted basis next to old new e fits le rises = record {
  fragment = arp_items next basis.state.address;
  appended = e;
  part = record {
    form = subst (λ (t : ℕ). IsFragment next t arp_room (arp_items next basis.state.address)) (sym rises) (arp_fragment next basis.state.address fits);
    tells = arp_tells basis next le;
  };
  few = omega arith;
}
