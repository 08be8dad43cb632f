use Rattle.std.proofs.Common.{ap, Err, List, ℕ, replicate, subst}
use Rattle.apf_base.specs.Limits.{memory_size}
use Rattle.pcap_files.specs.Stream.{Told}
use Rattle.command_plan.specs.Files.{input}
use Rattle.command_plan.specs.declared.fault.FileKind.TheVariants.{Program, Capture}
use Rattle.command_plan.specs.Plan.{Plan, ◌>>=◌, asks, opens}
use Rattle.command_plan.specs.Follows.{Follows, stage}
use Rattle.command_plan.proofs.Fetching.{asked_fits, behind_read, may_open}
use Rattle.command_plan.proofs.Following.{err_is}
use Rattle.command_plan.proofs.Rules.{read_then}
use Rattle.command_plan.proofs.Stages.{idle_refl}
use Rattle.command_plan.proofs.Streaming.{opened_fails, opened_then, seen_idle, seen_rose}
use Rattle.code_commands.specs.Exec.{runs_over}
use Rattle.code_commands.proofs.Course.{off_refused}
use Rattle.code_commands.proofs.execution.exec_at.Goals as goal

pub open_capture-requires : goal.open_capture-requires
open_capture-requires g c = may_open _ _ _ _ (behind_read _ _ _ _ _ _ c.in_ok-code.ensures c.requires)

pub run_over-requires-clause-program : goal.run_over-requires-clause-program
run_over-requires-clause-program g c = asked_fits _ _ _ _ _ _ c.as_slice.ensures c.in_ok-code.ensures

pub returns-in_err-reader : goal.returns-in_err-reader
returns-in_err-reader g c =
    let e = c.in_err-reader.ensures in
    let out = g.O.Lines.seen c.args.out.now in
    let first = g.met.H.Files.seen_is c.ask.new.self in
    let last = g.met.H.Files.seen_is c.open_capture.new.shelf in
    let b = stage (g.H.Files.seen c.open_capture.new.shelf) out in
    let next : Told → Plan (Unit {0}) = λ found. runs_over c.in_ok-code.code found c.args.age in
    read_then (asks (input Program 1) c.args.program.now) (λ code. opens (input Capture 2) c.args.capture.now >>= λ found. runs_over code found c.args.age) c.in_ok-code.code _ _ out _ b _ c.in_ok-code.ensures
    (opened_fails (input Capture 2) c.args.capture.now next c.in_err-reader.field-0.0 _ b _ (err_is _ _ c.from_residual-in_err-reader.ensures.1)
    (seen_idle _ _ _ _ out first last e.files e.faults e.misses) (rw first e.err)
    (λ which is. seen_rose _ _ _ _ out first last (e.read which (ap (λ f. Err f) is))) (λ which is. rw (first, last) (e.open which (ap (λ f. Err f) is)))
    (λ fault is. off_refused c.in_ok-code.code c.args.age 1 (replicate memory_size 0) b b _ fault is (idle_refl b)))

pub returns : goal.returns
returns g c =
    let e = c.in_ok-reader.ensures in
    let out = g.O.Lines.seen c.args.out.now in
    let first = g.met.H.Files.seen_is c.ask.new.self in
    let last = g.met.H.Files.seen_is c.open_capture.new.shelf in
    let a = stage (g.H.Files.seen c.open_capture.new.shelf) out in
    let b = stage (g.H.Files.seen c.run_over.new.shelf) (g.O.Lines.seen c.run_over.new.out) in
    let next : Told → Plan (Unit {0}) = λ found. runs_over c.in_ok-code.code found c.args.age in
    let ran = c.run_over.ensures (g.H.Source.file c.ask.new.self c.args.capture.now) e.opened e.bytes in
    read_then (asks (input Program 1) c.args.program.now) (λ code. opens (input Capture 2) c.args.capture.now >>= λ found. runs_over code found c.args.age) c.in_ok-code.code _ _ out _ b _ c.in_ok-code.ensures
    (opened_then (input Capture 2) c.args.capture.now next ran.0 c.in_ok-reader.reader _ a b _
    (seen_idle _ _ _ _ out first last e.files e.faults e.misses) (rw (first, last) e.opened) (rw first ran.1)
    (subst (λ (program : List ℕ). Follows (runs_over program ran.0 c.args.age) a b c.run_over.result) c.as_slice.ensures ran.2))
