use Rattle.std.proofs.Common.{take, ◌≡◌, true}
use Rattle.program_swap.specs.Driving.{HasInstalled}
use Rattle.program_swap.proofs.installing.install_all.Given as goal

abbrev pub invariant-loop-next : goal.invariant-loop-next
invariant-loop-next g l = record {
  live : l.installer.live ≡ true;
  installed : HasInstalled l.fn.installer (take l.next-index l.nexts) l.installer l.token;
}
