use Rattle.std.proofs.Common.{map, sym}
use Rattle.std.proofs.lemmas.Simd.{map-map}
use Rattle.apf_disasm.specs.Listing.{entry_of, IsListing}
use Rattle.apf_disasm.specs.Printing.{line_text}
use Rattle.command_plan.proofs.Following.{then_pick}
use Rattle.command_plan.proofs.Rules.{written}
use Rattle.command_plan.specs.Plan.{says}
use Rattle.code_commands.proofs.listing.write_listing.Goals as goal

pub returns : goal.returns
returns g c =
    let lines = c.as_slice.result.now in
    let listed : IsListing c.args.program.now (map entry_of lines) = rw c.as_slice.ensures c.in_ok-lines.ensures.listing in
    record {
      at = λ shelf.
          then_pick (IsListing c.args.program.now) (λ entries. says (map line_text entries)) (map entry_of lines) _ _ _ listed
          (written _ _ _ _ shelf _ c.write_lines.result c.write_lines.ensures (sym (map-map line_text entry_of lines)));
    }
