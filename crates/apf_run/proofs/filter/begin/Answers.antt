use Rattle.std.proofs.Common.{[], Err, ap}
use Rattle.std.proofs.lemmas.Result.{err_from_is_err_and}
use Rattle.command_plan.specs.Follows.{sinking}
use Rattle.command_plan.proofs.Texts.{writes_seen}
use Rattle.apf_run.proofs.Begun.{begin_fails, begin_goes, err_is, not_less}
use Rattle.apf_run.proofs.filter.begin.Goals as goal

pub returns-in_err-filtering-clause-begun : goal.returns-in_err-filtering-clause-begun
returns-in_err-filtering-clause-begun g c =
    let p = err_from_is_err_and c.from_residual.result c.from_residual.ensures.1 in
    let e = c.in_err-filtering.ensures in
    rw (p.1, p.2) (
      [],
      writes_seen _ _ _ (sinking (g.O.Sink.held c.args.out.now) (g.O.Sink.faults c.args.out.now)) (sinking (g.O.Sink.held c.begin.new.out) (g.O.Sink.faults c.begin.new.out)) _
          (g.met.O.Lines.seen_is c.args.out.now) (g.met.O.Lines.seen_is c.begin.new.out)
          (begin_fails c.args.script c.requires.sound _ _ e.faults c.in_err-filtering.field-0.0
          (λ w. e.front (ap (λ x. Err x) w)) (λ other. e.quiet (λ w. other (err_is w))) (λ need limit w. e.too_large need limit (ap (λ x. Err x) w)) (λ lt. err_is (e.fits lt)) (λ w. e.write (ap (λ x. Err x) w))),
      tt,
    )

pub returns-clause-begun : goal.returns-clause-begun
returns-clause-begun g c =
    let e = c.in_ok-filtering.ensures in
    let r = begin_goes c.args.script c.requires.sound (sinking (g.O.Sink.held c.args.out.now) (g.O.Sink.faults c.args.out.now)) (sinking (g.O.Sink.held c.begin.new.out) (g.O.Sink.faults c.begin.new.out)) e.faults
    c.in_ok-filtering.filtering (not_less _ _ (λ lt. let bad = e.fits lt in absurd cc)) e.ok in (
      r.0,
      writes_seen _ _ _ _ _ _ (g.met.O.Lines.seen_is c.args.out.now) (g.met.O.Lines.seen_is c.begin.new.out) r.1,
      r.2,
    )
