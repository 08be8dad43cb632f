-- Each record weighs at least 29 bytes, so a device has room for few.
use Rattle.std.proofs.Common.{arith}
use Rattle.apf_generate.proofs.Chosen.{records_few}
use Rattle.apf_generate.proofs.program.generate.Goals as goal

pub program_items-requires : goal.program_items-requires
program_items-requires c = omega (arith, records_few c.args.basis.now.chosen, c.args.basis.now.config.most, c.requires)
