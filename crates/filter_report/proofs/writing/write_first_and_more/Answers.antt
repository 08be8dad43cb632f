use Rattle.std.proofs.Common.{List, ℕ, subst}
use Rattle.std.specs.List.{concat}
use Rattle.std.proofs.lemmas.Result.{err_from_is_err_and, on_err_weaker}
use Rattle.apf_base.specs.Streams.{AppendsPart}
use Rattle.filter_report.proofs.Adding.{part_of_more, bytes_and_part}
use Rattle.filter_report.proofs.writing.write_first_and_more.Goals as goal

pub returns-in_err-write_all-clause-front : goal.returns-in_err-write_all-clause-front
returns-in_err-write_all-clause-front g c =
    let p = err_from_is_err_and c.from_residual.result c.from_residual.ensures.1 in
    let first = subst (λ (bytes : List ℕ). AppendsPart (g.O.Sink.held c.args.out.now) (g.O.Sink.held c.write_all.new.sink) bytes) c.as_slice.ensures c.in_err-write_all.ensures.err in
    rw (p.1) (part_of_more _ _ c.args.first.now (concat c.args.more.now) first)

pub returns-clause-front : goal.returns-clause-front
returns-clause-front g c =
    on_err_weaker c.write_lines.result (λ front. bytes_and_part _ _ _ c.args.first.now (concat c.args.more.now) (rw (← c.as_slice.ensures) c.in_ok-write_all.ensures.ok) front) c.write_lines.ensures.front
