use Rattle.std.proofs.Common.{ap, Err, ℕ, List}
use Rattle.pcap_files.specs.Stream.{Told}
use Rattle.command_plan.specs.Files.{input}
use Rattle.command_plan.specs.declared.fault.FileKind.TheVariants.{Capture}
use Rattle.command_plan.specs.Plan.{Plan, ◌>>=◌, opens}
use Rattle.command_plan.specs.Follows.{stage}
use Rattle.command_plan.proofs.Fetching.{behind_write, may_open}
use Rattle.command_plan.proofs.Following.{err_is}
use Rattle.command_plan.proofs.Rules.{write_then}
use Rattle.command_plan.proofs.Streaming.{opened_fails, opened_then, seen_idle, seen_rose}
use Rattle.filter_report.specs.Streaming.{replays}
use Rattle.apf_run.specs.Filter.{begins}
use Rattle.apf_run.proofs.Begun.{refused_at_once}
use Rattle.apf_run.proofs.filter.filter_by.Goals as goal

pub open_capture-requires : goal.open_capture-requires
open_capture-requires g c = may_open _ _ _ _ (behind_write _ _ _ _ _ _ c.in_ok-filtering.ensures.begun.1 c.requires.may)

pub returns-in_err-reader : goal.returns-in_err-reader
returns-in_err-reader g c =
    let e = c.in_err-reader.ensures in
    let begun = c.in_ok-filtering.ensures.begun in
    let out = g.O.Lines.seen c.begin.new.out in
    let first = g.met.H.Files.seen_is c.args.shelf.now in
    let last = g.met.H.Files.seen_is c.open_capture.new.shelf in
    let b = stage (g.H.Files.seen c.open_capture.new.shelf) out in
    let next : List ℕ → Told → Plan (Unit {0}) = λ line found. replays (input Capture 2) c.args.script line found in
    write_then (begins c.args.script) (λ line. opens (input Capture 2) c.args.capture.now >>= next line) begun.0 _ _ _ _ b _ begun.1
    (opened_fails (input Capture 2) c.args.capture.now (next begun.0) c.in_err-reader.field-0.0 _ b _ (err_is _ _ c.from_residual-in_err-reader.ensures.1)
    (seen_idle _ _ _ _ out first last e.files e.faults e.misses) (rw first e.err)
    (λ which is. seen_rose _ _ _ _ out first last (e.read which (ap (λ f. Err f) is))) (λ which is. rw (first, last) (e.open which (ap (λ f. Err f) is)))
    (λ fault is. refused_at_once c.args.script c.in_ok-filtering.filtering begun.0 begun.2 fault b _ is))

pub returns : goal.returns
returns g c =
    let e = c.in_ok-reader.ensures in
    let begun = c.in_ok-filtering.ensures.begun in
    let out = g.O.Lines.seen c.begin.new.out in
    let first = g.met.H.Files.seen_is c.args.shelf.now in
    let last = g.met.H.Files.seen_is c.open_capture.new.shelf in
    let a = stage (g.H.Files.seen c.open_capture.new.shelf) out in
    let b = stage (g.H.Files.seen c.replay.new.shelf) (g.O.Lines.seen c.replay.new.out) in
    let next : List ℕ → Told → Plan (Unit {0}) = λ line found. replays (input Capture 2) c.args.script line found in
    let taken = c.replay.ensures c.args.script begun.0 (g.H.Source.file c.args.shelf.now c.args.capture.now) begun.2 e.opened e.bytes in
    write_then (begins c.args.script) (λ line. opens (input Capture 2) c.args.capture.now >>= next line) begun.0 _ _ _ _ b _ begun.1
    (opened_then (input Capture 2) c.args.capture.now (next begun.0) taken.0 c.in_ok-reader.reader _ a b _
    (seen_idle _ _ _ _ out first last e.files e.faults e.misses) (rw (first, last) e.opened) (rw first taken.1) taken.2)
