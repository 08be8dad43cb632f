use Rattle.std.proofs.Common.{◌<◌, ◌/◌, arith}
use Rattle.apf_base.specs.Limits.{memory_size}
use Rattle.data_counters.proofs.Adding.{adds_one_more}
use Rattle.data_counters.proofs.memory.add_all.Goals as goal

pub loop-k-preserved : goal.loop-k-preserved
loop-k-preserved c =
    let few : c.loop-k.k < memory_size / 4 = omega arith in
    let next = adds_one_more c.loop-k.k c.args.into.now c.args.from.now c.loop-k.into few c.loop-k.invariant in
    rw c.set_word.ensures (rw (c.word.ensures, c.word-in-loop-k.ensures) next)
