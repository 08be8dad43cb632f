use Rattle.std.proofs.Common.{List, ap, ◌∙◌}
use Rattle.ra_records.specs.declared.span.Span.{Span}
use Rattle.ra_records.specs.Advert.{sections_of, least_in}
use Rattle.ra_records.proofs.Walk.{sound}
use Rattle.ra_records.proofs.Matching.{found, numbers_of, seen_ok, seen_err, held}
use Rattle.ra_records.proofs.record.Record.read.Goals as goal

pub returns-in-Err : goal.returns-in-Err
returns-in-Err c = seen_err c.args.frame.now c.args.now c.in-Err.e c.in-Err.ensures

pub read_sections-requires : goal.read_sections-requires
read_sections-requires c = rw c.as_slice.ensures (sound c.args.frame.now c.in-Ok.lifetimes (found _ _ c.in-Ok.ensures)).rising

pub least_in-least-requires : goal.least_in-least-requires
least_in-least-requires c = numbers_of c.args.frame.now c.in-Ok.lifetimes c.as_slice-2.result.now (sound c.args.frame.now c.in-Ok.lifetimes (found _ _ c.in-Ok.ensures)) c.as_slice-2.ensures

pub invariant_of-result : goal.invariant_of-result
invariant_of-result c =
    held c.args.frame.now c.in_ok-bytes.bytes c.in-Ok.lifetimes c.in_ok-sections.sections c.least_in-least.result (found _ _ c.in-Ok.ensures) c.in_ok-bytes.ensures
    (c.in_ok-sections.ensures ∙ ap (λ (l : List Span). sections_of c.args.frame.now l) c.as_slice.ensures)
    (c.least_in-least.ensures ∙ ap (λ (l : List Span). least_in c.args.frame.now l) c.as_slice-2.ensures)

pub returns : goal.returns
returns c = λ differs. seen_ok c.args.frame.now c.in_ok-bytes.bytes c.args.now c.in-Ok.lifetimes (found _ _ c.in-Ok.ensures) c.in_ok-bytes.ensures
