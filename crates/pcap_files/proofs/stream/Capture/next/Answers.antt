use Rattle.std.proofs.Common.{refl}
use Rattle.std.proofs.lemmas.Result.{err_from_is_err_and}
use Rattle.pcap_files.proofs.Handing.{gives_some, gives_end, gives_fault, answered}
use Rattle.pcap_files.proofs.stream.Capture.next.Goals as goal

pub returns-in_err-placed-clause-gives : goal.returns-in_err-placed-clause-gives
returns-in_err-placed-clause-gives g c =
    let p = err_from_is_err_and c.from_residual.result c.from_residual.ensures.1 in
    rw (p.1, p.2, ← c.self.view_is) (gives_fault _ _ _ _ _ _ c.in_err-placed.ensures.taken)

pub returns-in_err-placed-clause-exact : goal.returns-in_err-placed-clause-exact
returns-in_err-placed-clause-exact g c = answered c.args.self.now _ _ _ _ _ (returns-in_err-placed-clause-gives g c)

pub returns-in_default-clause-gives : goal.returns-in_default-clause-gives
returns-in_default-clause-gives g c = rw (← c.self.view_is) (gives_end _ _ _ _ _ (rw c.in_default.is at c.in_ok-placed.ensures.taken))

pub returns-in_default-clause-exact : goal.returns-in_default-clause-exact
returns-in_default-clause-exact g c = answered c.args.self.now _ _ _ _ _ (returns-in_default-clause-gives g c)

pub returns-clause-gives : goal.returns-clause-gives
returns-clause-gives g c = rw (← c.self.view_is) (gives_some _ _ _ _ _ c.in-Some.placed refl refl (rw c.in-Some.is at c.in_ok-placed.ensures.taken))

pub returns-clause-exact : goal.returns-clause-exact
returns-clause-exact g c = answered c.args.self.now _ _ _ _ _ (returns-clause-gives g c)
