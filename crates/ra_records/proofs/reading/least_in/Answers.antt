use Rattle.std.proofs.Common.{◌∙◌, drop_of_length-le, lit≤}
use Rattle.ra_records.proofs.Least.{least_first, least_last}
use Rattle.ra_records.proofs.reading.least_in.Goals as goal

pub loop-span-init : goal.loop-span-init
loop-span-init c = record { found = least_first c.args.frame.now c.args.spans.now; most = lit≤ tt }

pub returns : goal.returns
returns c =
    least_last c.args.frame.now _ c.loop-span.least c.loop-span.invariant.most (drop_of_length-le c.args.spans.now c.loop-span-test.false) ∙ c.loop-span.invariant.found
