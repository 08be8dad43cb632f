use Rattle.std.proofs.Common.{[], ap}
use Rattle.program_swap.specs.Histories.{InstallerState}
use Rattle.program_swap.proofs.tests.board.Goals as goal

pub returns-in-Ok-clause-last : goal.returns-in-Ok-clause-last
returns-in-Ok-clause-last g c = (c.args.first, ([], ap (λ (d : InstallerState). d.published) c.in-Ok.ensures.installer), c.requires.number)
