use Rattle.std.proofs.Common.{subst}
use Rattle.program_swap.specs.Histories.{History, LastNumber}
use Rattle.program_swap.proofs.installer.Token.number.Goals as goal

pub returns : goal.returns
returns c = subst (λ (s : History). LastNumber s.installs c.self.inside.number) c.self.view_is c.self.invariant.0
