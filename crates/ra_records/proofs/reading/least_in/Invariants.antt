use Rattle.std.proofs.Common.{◌≡◌, ◌≤◌, ◌^◌, ◌-◌, drop, min}
use Rattle.ra_records.specs.Advert.{least_in}
use Rattle.ra_records.proofs.reading.least_in.Given as goal

abbrev pub invariant-loop-span : goal.invariant-loop-span
invariant-loop-span l = record {
  found : min l.least (least_in l.frame (drop l.span-index l.spans)) ≡ least_in l.frame l.spans;
  most : l.least ≤ 2 ^ 32 - 1;
}
