use Rattle.std.proofs.Common.{◌++◌, ◌∷◌, [], None, Ok, Err, arith, ap, ◌∙◌}
use Rattle.apf_coding.specs.Run.{run}
use Rattle.pcap_files.specs.Stream.{Handed}
use Rattle.command_plan.proofs.Following.{err_is}
use Rattle.command_plan.proofs.Streaming.{given_none, given_more, seen_idle, seen_rose, seen_taken, taken_bytes}
use Rattle.code_commands.proofs.Course.{goes_further, has_ended, has_failed, has_lacked, has_unsaid, frame_off, ends_so}
use Rattle.code_commands.proofs.execution.run_over.Goals as goal

pub loop-frame-init : goal.loop-frame-init
loop-frame-init g c = record {
  so_far = ([], record { on = λ later b r more. more }, λ bytes opened. given_none bytes _ _ opened);
  live = c.requires.live;
  few = omega (arith, c.requires.place);
}

pub returns-in_err-_stamp : goal.returns-in_err-_stamp
returns-in_err-_stamp g c bytes opened are =
    let so_far = c.loop-frame.invariant.so_far in
    let e = c.in_err-_stamp.ensures in
    let out = g.O.Lines.seen c.loop-frame.out in
    let first = g.met.H.Files.seen_is c.loop-frame.shelf in
    let last = g.met.H.Files.seen_is c.next_record.new.shelf in
    has_failed c.args.program.now c.args.age c.loop-frame.number c.loop-frame.memory so_far.0 _ _ bytes _ _ so_far.1 (so_far.2 bytes opened)
    c.in_err-_stamp.field-0.0 _ _ are (err_is _ _ c.from_residual.ensures.1)
    (seen_idle _ _ _ _ out first last e.files e.faults (omega (arith, e.misses))) e.err (λ which is. seen_rose _ _ _ _ out first last (e.read which (ap (λ f. Err f) is)))

pub returns-in_err-line : goal.returns-in_err-line
returns-in_err-line g c bytes opened are =
    let so_far = c.loop-frame.invariant.so_far in
    let e = c.in_ok-_stamp.ensures in
    let out = g.O.Lines.seen c.loop-frame.out in
    let first = g.met.H.Files.seen_is c.loop-frame.shelf in
    let last = g.met.H.Files.seen_is c.next_record.new.shelf in
    has_lacked c.args.program.now c.args.age c.loop-frame.number c.loop-frame.memory so_far.0 _ _ bytes _ _ so_far.1 (so_far.2 bytes opened) _ _ are
    (err_is _ _ c.from_residual-in_err-line.ensures.1) (seen_idle _ _ _ _ out first last e.files e.faults (omega (arith, e.misses)))

pub returns-in_err-say : goal.returns-in_err-say
returns-in_err-say g c bytes opened are =
    let so_far = c.loop-frame.invariant.so_far in
    let e = c.in_ok-_stamp.ensures in
    let hands = rw c.in-Some.is at e.given in
    let out = g.O.Lines.seen c.loop-frame.out in
    let first = g.met.H.Files.seen_is c.loop-frame.shelf in
    let last = g.met.H.Files.seen_is c.next_record.new.shelf in
    let handed : Handed = record { stamp = c.in-Some._stamp; at = c.loop-frame.reader.at; frame = c.next_record.new.frame } in
    has_unsaid c.args.program.now c.args.age c.loop-frame.number c.loop-frame.memory so_far.0 handed _ _ _ bytes _ _ _ so_far.1
    (given_more bytes _ _ _ _ so_far.0 _ c.in-Some._stamp (so_far.2 bytes opened) hands e.bytes) are
    (λ later. frame_off c.args.program.now c.args.age c.loop-frame.number c.loop-frame.memory c.interpret-outcome.new.memory handed c.interpret-outcome.result c.as_bytes.result.now _ _
    (seen_idle _ _ _ _ out first last e.files e.faults (omega (arith, e.misses))) (seen_taken _ _ _ _ out first last _ (taken_bytes _ _ _ _ _ _ hands))
    (c.interpret-outcome.ensures.run ∙ ap (λ frame. run c.args.program.now c.loop-frame.memory frame c.args.age) c.as_slice.ensures) (c.as_bytes.ensures.value ∙ c.in_ok-line.ensures) later _ _ _ (c.in_err-say.ensures.at _) (err_is _ _ c.from_residual-in_err-say.ensures.1))

pub loop-frame-preserved : goal.loop-frame-preserved
loop-frame-preserved g c =
    let so_far = c.loop-frame.invariant.so_far in
    let e = c.in_ok-_stamp.ensures in
    let hands = rw c.in-Some.is at e.given in
    let out = g.O.Lines.seen c.loop-frame.out in
    let first = g.met.H.Files.seen_is c.loop-frame.shelf in
    let last = g.met.H.Files.seen_is c.next_record.new.shelf in
    let handed : Handed = record { stamp = c.in-Some._stamp; at = c.loop-frame.reader.at; frame = c.next_record.new.frame } in
    record {
      so_far = (
        so_far.0 ++ handed ∷ [],
        goes_further c.args.program.now c.args.age c.loop-frame.number c.loop-frame.memory c.interpret-outcome.new.memory handed c.interpret-outcome.result c.as_bytes.result.now _ _
            (seen_idle _ _ _ _ out first last e.files e.faults (omega (arith, e.misses))) (seen_taken _ _ _ _ out first last _ (taken_bytes _ _ _ _ _ _ hands))
            (c.interpret-outcome.ensures.run ∙ ap (λ frame. run c.args.program.now c.loop-frame.memory frame c.args.age) c.as_slice.ensures) (c.as_bytes.ensures.value ∙ c.in_ok-line.ensures) so_far.0 _ _ so_far.1 (c.in_ok-say.ensures.at _),
        λ bytes opened. given_more bytes _ _ _ _ so_far.0 _ c.in-Some._stamp (so_far.2 bytes opened) hands e.bytes,
      );
      live = rw c.in-Some.is at e.live;
      few = omega (arith, hands.place);
    }

pub returns-in_err-line-2 : goal.returns-in_err-line-2
returns-in_err-line-2 g c bytes opened are =
    let so_far = c.loop-frame.invariant.so_far in
    let e = c.in_ok-_stamp.ensures in
    let out = g.O.Lines.seen c.loop-frame.out in
    let first = g.met.H.Files.seen_is c.loop-frame.shelf in
    let last = g.met.H.Files.seen_is c.next_record.new.shelf in
    has_lacked c.args.program.now c.args.age c.loop-frame.number c.loop-frame.memory so_far.0 _ _ bytes _ _ so_far.1 (so_far.2 bytes opened) _ _ are
    (err_is _ _ c.from_residual-in_err-line-2.ensures.1) (seen_idle _ _ _ _ out first last e.files e.faults (omega (arith, e.misses)))

pub returns : goal.returns
returns g c bytes opened are =
    let so_far = c.loop-frame.invariant.so_far in
    let e = c.in_ok-_stamp.ensures in
    let out = g.O.Lines.seen c.loop-frame.out in
    let first = g.met.H.Files.seen_is c.loop-frame.shelf in
    let last = g.met.H.Files.seen_is c.next_record.new.shelf in
    let none = ap (λ found. Ok found) c.in_default.is in
    has_ended c.args.program.now c.args.age c.loop-frame.number c.loop-frame.memory so_far.0 _ _ bytes _ _ so_far.1 (so_far.2 bytes opened) None _ _ (e.end none)
    (ends_so c.args.program.now c.args.age c.loop-frame.number c.loop-frame.memory _ _ _ c.as_bytes-2.result.now _ (c.as_bytes-2.ensures.value ∙ c.in_ok-line-2.ensures)
    (seen_idle _ _ _ _ out first last e.files e.faults (omega (arith, e.misses))) (rw last (e.whole none)) (c.say-2.ensures.at _))
