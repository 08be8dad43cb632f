use Rattle.program_swap.proofs.Driving.{left_from}
use Rattle.program_swap.proofs.Renewing.{Renews}
use Rattle.program_swap.proofs.again.share_again.Given as goal

abbrev pub invariant-loop-frame : goal.invariant-loop-frame
invariant-loop-frame l = Renews l.installs l.end.view l.last.number (left_from 0 l.hand l.others l.capture l.frames 0) (left_from l.clock l.wait l.others l.capture l.frames l.frame-index) l.kept l.end.memory l.again
