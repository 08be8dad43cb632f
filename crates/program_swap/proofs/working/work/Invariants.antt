use Rattle.program_swap.specs.Driving.{dealt_frames}
use Rattle.program_swap.proofs.Driving.{GoesOn, left_from}
use Rattle.program_swap.proofs.working.work.Given as goal

abbrev pub invariant-loop-frame : goal.invariant-loop-frame
invariant-loop-frame g l = GoesOn (dealt_frames l.fn.wait l.others l.capture l.frames) (left_from l.clock l.wait l.others l.capture l.frames l.frame-index) l.fn.lane l.lane
