-- What was emitted for IPv6 is a fragment that says what its questions answer.
use Rattle.std.proofs.Common.{◌≡◌, ℕ, ◌+◌, ◌≤◌, List, ◌++◌, sym, subst, arith}
use Rattle.apf_asm.specs.declared.item.Item.{Item}
use Rattle.policy_state.specs.declared.basis.Basis.{Basis}
use Rattle.policy_state.specs.Ip6.{ip6_header_lines}
use Rattle.apf_asm.specs.Fragment.{Emits, IsFragment}
use Rattle.policy_state.specs.Rulings.{said_of}
use Rattle.ip_rules.specs.Ip6Listing.{ip6_items}
use Rattle.ip_rules.proofs.Ip6Ruling.{ip6_tells}
use Rattle.ip_rules.proofs.Ip6Sound.{ip6_fragment}
use Rattle.policy_state.specs.Rooms.{ip6_header_room}

pub ip6_emitted : (basis : Basis) (next to : ℕ) (old new : List Item) → new ≡ old ++ ip6_items basis next → 2 ≤ next → to ≡ next + 3
    → Emits (λ age frame. said_of (ip6_header_lines basis frame)) ip6_header_room next to old new
ip6_emitted basis next to old new e le rises = record {
  fragment = ip6_items basis next;
  appended = e;
  part = record {
    form = subst (λ (t : ℕ). IsFragment next t ip6_header_room (ip6_items basis next)) (sym rises) (ip6_fragment basis next);
    tells = ip6_tells basis next le;
  };
  few = omega arith;
}
