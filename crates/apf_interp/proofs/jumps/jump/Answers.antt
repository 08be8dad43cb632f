-- The place that is jumped from is the one behind the offset.
use Rattle.std.proofs.Common.{◌≡◌, ◌-◌, length, drop, length-drop, arith}
use Rattle.apf_interp.proofs.jumps.jump.Goals as goal

pub returns : goal.returns
returns c s =
    let read = c.in_ok-offset.ensures in
    let end : length c.args.c.now.program.now - length (drop c.in_ok-offset.end c.args.c.now.program.now) ≡ c.in_ok-offset.end = omega (arith, length-drop c.in_ok-offset.end c.args.c.now.program.now, read.0) in
    rw (read.1, end) (c.jump_if.ensures s)
