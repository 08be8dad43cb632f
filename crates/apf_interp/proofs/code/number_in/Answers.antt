-- A number of so many bytes is below the power.
use Rattle.std.proofs.Common.{◌+◌, ◌-◌, ◌≡◌, arith}
use Rattle.apf_interp.proofs.Numbers.{number_fits}
use Rattle.apf_interp.proofs.code.number_in.Goals as goal

pub returns-clause-below : goal.returns-clause-below
returns-clause-below c =
    let k : c.args.at + c.args.size - c.args.at ≡ c.args.size = omega arith in
    let fits = number_fits c.args.program.now c.args.at c.args.size (λ i. omega (arith, c.type_inv.program i)) (omega arith) in
    rw (c.number.ensures, k) fits
