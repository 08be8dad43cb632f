use Rattle.std.proofs.Common.{Err, ap, refl, arith}
use Rattle.std.proofs.lemmas.Result.{err_from_is_err_and}
use Rattle.command_plan.specs.Follows.{stage, sinking}
use Rattle.command_plan.proofs.Texts.{writes_seen}
use Rattle.apf_run.proofs.Made.{replay_fails, totals_done, totals_fail}
use Rattle.apf_run.proofs.make.write_summary.Goals as goal

pub returns-in_err-filtering : goal.returns-in_err-filtering
returns-in_err-filtering g c =
    let p = err_from_is_err_and c.from_residual.result c.from_residual.ensures.1 in
    record {
      at = λ shelf.
          rw (p.1, p.2) (replay_fails c.args.n (stage shelf _) c.in_err-filtering.field-0.0
          (λ need limit e. c.in_err-filtering.ensures.no_limit need limit (ap (λ x. Err x) e)) (λ e. c.in_err-filtering.ensures.no_write (ap (λ x. Err x) e)));
    }

pub returns-in_err-write_totals : goal.returns-in_err-write_totals
returns-in_err-write_totals g c =
    let p = err_from_is_err_and c.from_residual-in_err-write_totals.result c.from_residual-in_err-write_totals.ensures.1 in
    let e = c.in_err-write_totals.ensures in
    writes_seen _ _ _ (sinking (g.O.Sink.held c.args.out.now) (g.O.Sink.faults c.args.out.now)) (sinking (g.O.Sink.held c.write_totals.new.out) (g.O.Sink.faults c.write_totals.new.out)) _
    (g.met.O.Lines.seen_is c.args.out.now) (g.met.O.Lines.seen_is c.write_totals.new.out)
    (record {
      at = λ shelf.
          rw (p.1, p.2) (totals_fail c.args.n c.in_ok-filtering.filtering _ _ (record { files = refl; faults = omega arith; misses = omega arith; out_faults = e.faults; board = omega arith }) c.in_ok-filtering.ensures.ok
          refl _ c.in_err-write_totals.field-0.0 refl e.front e.quiet e.no_limit e.write);
    })

pub returns : goal.returns
returns g c =
    let e = c.in_ok-write_totals.ensures in
    writes_seen _ _ _ (sinking (g.O.Sink.held c.args.out.now) (g.O.Sink.faults c.args.out.now)) (sinking (g.O.Sink.held c.write_totals.new.out) (g.O.Sink.faults c.write_totals.new.out)) _
    (g.met.O.Lines.seen_is c.args.out.now) (g.met.O.Lines.seen_is c.write_totals.new.out)
    (record {
      at = λ shelf.
          totals_done c.args.n c.in_ok-filtering.filtering _ _ (record { files = refl; faults = omega arith; misses = omega arith; out_faults = e.faults; board = omega arith }) c.in_ok-filtering.ensures.ok refl e.ok;
    })
