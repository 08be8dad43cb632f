use Rattle.std.proofs.Common.{take}
use Rattle.apf_generate.specs.Program.{AddsRecords}
use Rattle.apf_generate.proofs.ra.add_records.Given as goal

abbrev pub invariant-loop-one : goal.invariant-loop-one
invariant-loop-one l = AddsRecords (take l.one-index l.chosen) l.fn.next l.next l.fn.out l.out
