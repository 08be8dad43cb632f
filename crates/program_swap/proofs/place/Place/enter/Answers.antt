use Rattle.std.proofs.Common.{refl, subst, arith}
use Rattle.program_swap.specs.Histories.{History, HasLast}
use Rattle.program_swap.proofs.Keeping.{enters, enters_follows}
use Rattle.program_swap.proofs.place.Place.enter.Goals as goal

pub enter_as-requires : goal.enter_as-requires
enter_as-requires c = enters _ _

pub returns-then-install-least-clause-ok : goal.returns-then-install-least-clause-ok
returns-then-install-least-clause-ok c =
    let told = c.in-Ok.ensures in
    let i = c.install.result.now in
    let last = subst (λ (s : History). HasLast s.installs i) c.get.ensures c.install.ensures in (
      refl,
      refl,
      enters_follows _ c.in-Ok.reading.part.value c.in-Ok.reading.part.value _ told.1,
      told.1.0,
      (i, last, omega (arith, c.if-install-least.true)),
    )
