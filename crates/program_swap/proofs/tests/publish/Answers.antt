use Rattle.std.proofs.Common.{ℕ, ◌+◌, sym, ap, ◌∙◌}
use Rattle.filter_core.specs.declared.install.Install.{Install}
use Rattle.program_swap.specs.Histories.{InstallerState}
use Rattle.program_swap.proofs.Keeping.{ends_same}
use Rattle.program_swap.proofs.tests.publish.Goals as goal

-- a list has one last install
pub install-requires-clause-next : goal.install-requires-clause-next
install-requires-clause-next g c κs within i e =
    let last = c.requires.last in
    c.requires.next ∙ ap (λ (n : ℕ). n + 1) (sym last.2 ∙ ap (λ (j : Install). j.number) (ends_same c.args.installer.now.published last.0 i last.1 e))

pub returns-in-Ok-clause-last : goal.returns-in-Ok-clause-last
returns-in-Ok-clause-last g c = (c.args.next, (c.args.installer.now.published, ap (λ (d : InstallerState). d.published) c.in-Ok.ensures.ok), c.requires.next)
