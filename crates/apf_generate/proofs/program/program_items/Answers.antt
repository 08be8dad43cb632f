-- What was added, one behind the other.
use Rattle.std.proofs.Common.{List, ◌++◌, ap, ◌∙◌}
use Rattle.apf_asm.specs.declared.item.Item.{Item}
use Rattle.apf_generate.specs.Listing.{opening_items}
use Rattle.apf_generate.proofs.Joined.{joined}
use Rattle.apf_generate.proofs.program.program_items.Goals as goal

pub returns : goal.returns
returns c =
    joined c.args.basis.now c.emit_link.new.next c.emit_arp.new.next c.emit_ip4.new.next c.add_ip6.new.next c.add_raising.new.out c.emit_link.new.out c.emit_arp.new.out c.emit_ip4.new.out c.add_ip6.new.out c.add_last.new.out c.add_ends.new.out
    (c.in_ok-add_raising.ensures ∙ ap (λ (xs : List Item). xs ++ opening_items) (c.reserve.ensures ∙ c.new-out.ensures))
    c.in_ok-emit_link.ensures.ok c.in_ok-emit_arp.ensures.ok c.in_ok-emit_ip4.ensures.ok c.in_ok-add_ip6.ensures c.in_ok-add_last.ensures c.in_ok-add_ends.ensures c.requires
