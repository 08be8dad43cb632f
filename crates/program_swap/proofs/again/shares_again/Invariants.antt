use Rattle.std.proofs.Common.{◌-◌, length, map, take}
use Rattle.dealt_items.specs.Dealing.{hands}
use Rattle.filter_core.specs.Arrivals.{arrivals_of}
use Rattle.filter_core.specs.Lanes.{LanesRun}
use Rattle.program_swap.specs.Again.{AllKeepNamed}
use Rattle.program_swap.proofs.again.shares_again.Given as goal

abbrev pub invariant-loop-hand : goal.invariant-loop-hand
invariant-loop-hand l = record {
  run : LanesRun l.installs (hands 0 l.hand (length l.ends - 1) (arrivals_of l.capture l.frames)) (map (λ share. share.answers) l.shares) (map (λ share. share.memory) l.shares);
  kept : AllKeepNamed (length l.installs) (take l.hand l.ends) (map (λ share. share.answers) l.shares);
}
