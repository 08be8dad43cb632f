use Rattle.std.proofs.Common.{arith}
use Rattle.std.proofs.KnownBytes.{Keeps-refl}
use Rattle.command_plan.proofs.Stepping.{asks_by}
use Rattle.command_plan.proofs.steps.ask.Goals as goal

pub returns : goal.returns
returns g c = record {
  at = λ out.
      let e = c.read_file.ensures in
      asks_by c.args.input c.args.name.now _ _ c.read_file.result
      (record { later = record { files = e.files; faults = e.faults; misses = e.misses; out_faults = omega arith; board = omega arith }; held = Keeps-refl out.held })
      e.ok e.fits e.bytes e.whole e.err e.read e.open;
}
