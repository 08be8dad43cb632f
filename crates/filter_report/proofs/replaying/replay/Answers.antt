-- Each turn takes a record and writes its lines, and each exit is one way in which the plan ends.
use Rattle.std.proofs.Common.{ℕ, List, ◌∷◌, [], ◌++◌, Ok, Err, refl, ap, subst, arith}
use Rattle.std.proofs.lemmas.Result.{err_from_is_err_and}
use Rattle.filter_core.specs.Replay.{after_arrival}
use Rattle.command_plan.proofs.Streaming.{seen_idle}
use Rattle.filter_report.specs.Along.{InCourse}
use Rattle.filter_report.specs.Lines.{Adds, BreaksOff}
use Rattle.filter_report.specs.Report.{Leads}
use Rattle.filter_report.proofs.Completing.{records_course, records_frames}
use Rattle.filter_report.proofs.Woven.{taken_none, taken_more, next_fails, record_breaks, all_told, end_breaks, goes_seen, stage_at, out_alone}
use Rattle.filter_report.proofs.replaying.replay.Goals as goal

pub records-init : goal.records-init
records-init g c =
    let at = stage_at g.H.Source.file g.H.Source.left g.H.Source.faults g.H.Source.misses g.O.Sink.held g.O.Sink.faults in
    record {
      so_far = λ script line bytes h opened. taken_none c.args.input script line bytes c.args.filtering c.args.reader (at c.args.shelf.now c.args.out.now) h opened;
      live = c.requires.live;
      few = omega (arith, c.requires.place, c.requires.none);
      inside = omega (arith, c.requires.place);
    }

pub records-preserved : goal.records-preserved
records-preserved g c =
    let at = stage_at g.H.Source.file g.H.Source.left g.H.Source.faults g.H.Source.misses g.O.Sink.held g.O.Sink.faults in
    let l = c.records in
    let n = c.in_ok-stamp.ensures in
    let hands = rw c.in-Some.is at n.given in
    let live = rw c.in-Some.is at n.live in
    let e = c.in_ok-take_record.ensures in
    let before = at l.shelf l.out in
    let taken = at c.next_record.new.shelf l.out in
    let after = at c.next_record.new.shelf c.take_record.new.out in
    let idle = seen_idle before.shelf taken.shelf before.shelf taken.shelf before.out refl refl n.files n.faults (omega (arith, n.misses)) in
    let later = out_alone taken.shelf taken.out after.out e.faults in
    record {
      so_far = λ script line bytes h opened.
          let so = l.invariant.so_far script line bytes h opened in
          let course = records_course script so.given in
          let frames = records_frames so.given in
          taken_more c.args.input script line bytes l.filtering l.reader (at c.args.shelf.now c.args.out.now) before so c.next_record.new.reader c.next_record.new.frame c.in-Some.stamp c.take_record.new.self taken after hands n.bytes idle later refl
          (subst (λ (x : List ℕ). Adds (InCourse course l.filtering frames) (InCourse (after_arrival course (record { second = c.in-Some.stamp.sec; frame = x })) c.take_record.new.self (frames ++ x ∷ [])) taken.out.held after.out.held)
          c.as_slice.ensures (e.ok course frames));
      live = live;
      few = omega (arith, hands.place, e.frames, l.invariant.few);
      inside = n.inside;
    }

-- the next record was not taken
pub returns-in_err-stamp : goal.returns-in_err-stamp
returns-in_err-stamp g c = λ script line bytes h opened are.
    let at = stage_at g.H.Source.file g.H.Source.left g.H.Source.faults g.H.Source.misses g.O.Sink.held g.O.Sink.faults in
    let p = err_from_is_err_and c.from_residual.result c.from_residual.ensures.1 in
    let l = c.records in
    let n = c.in_err-stamp.ensures in
    let start = at c.args.shelf.now c.args.out.now in
    let before = at l.shelf l.out in
    let taken = at c.next_record.new.shelf l.out in
    let idle = seen_idle before.shelf taken.shelf before.shelf taken.shelf before.out refl refl n.files n.faults (omega (arith, n.misses)) in
    rw (p.1, p.2)
    (goes_seen c.args.input script line bytes start taken _ _ _ _ _ (g.met.H.Files.seen_is c.args.shelf.now) (g.met.H.Files.seen_is c.next_record.new.shelf) (g.met.O.Lines.seen_is c.args.out.now) (g.met.O.Lines.seen_is l.out)
    (next_fails c.args.input script line bytes l.filtering l.reader start before (l.invariant.so_far script line bytes h opened) h.sound h.fits are c.in_err-stamp.field-0.0 taken idle n.err
    (λ which is. n.read which (ap (λ f. Err f) is))))

-- the call broke off in the lines of a record
pub returns-in_err-take_record : goal.returns-in_err-take_record
returns-in_err-take_record g c = λ script line bytes h opened are.
    let at = stage_at g.H.Source.file g.H.Source.left g.H.Source.faults g.H.Source.misses g.O.Sink.held g.O.Sink.faults in
    let p = err_from_is_err_and c.from_residual-in_err-take_record.result c.from_residual-in_err-take_record.ensures.1 in
    let l = c.records in
    let n = c.in_ok-stamp.ensures in
    let hands = rw c.in-Some.is at n.given in
    let e = c.in_err-take_record.ensures in
    let fault = c.in_err-take_record.field-0.0 in
    let start = at c.args.shelf.now c.args.out.now in
    let before = at l.shelf l.out in
    let taken = at c.next_record.new.shelf l.out in
    let after = at c.next_record.new.shelf c.take_record.new.out in
    let idle = seen_idle before.shelf taken.shelf before.shelf taken.shelf before.out refl refl n.files n.faults (omega (arith, n.misses)) in
    let later = out_alone taken.shelf taken.out after.out e.faults in
    let so = l.invariant.so_far script line bytes h opened in
    let course = records_course script so.given in
    let frames = records_frames so.given in
    rw (p.1, p.2)
    (goes_seen c.args.input script line bytes start after _ _ _ _ _ (g.met.H.Files.seen_is c.args.shelf.now) (g.met.H.Files.seen_is c.next_record.new.shelf) (g.met.O.Lines.seen_is c.args.out.now) (g.met.O.Lines.seen_is c.take_record.new.out)
    (record_breaks c.args.input script line bytes l.filtering l.reader start before so h.sound h.fits are c.next_record.new.reader c.next_record.new.frame c.in-Some.stamp taken after hands n.bytes fault idle later refl
    (λ need limit is. e.no_limit need limit (ap (λ f. Err f) is)) (λ is. e.write (ap (λ f. Err f) is))
    (subst (λ (x : List ℕ). BreaksOff fault (InCourse course l.filtering frames) (Leads (after_arrival course (record { second = c.in-Some.stamp.sec; frame = x })).told (frames ++ x ∷ [])) taken.out.held after.out.held)
    c.as_slice.ensures (e.err course frames))))

-- it broke off behind the last record
pub returns-in_err-finish : goal.returns-in_err-finish
returns-in_err-finish g c = λ script line bytes h opened are.
    let at = stage_at g.H.Source.file g.H.Source.left g.H.Source.faults g.H.Source.misses g.O.Sink.held g.O.Sink.faults in
    let p = err_from_is_err_and c.from_residual-in_err-finish.result c.from_residual-in_err-finish.ensures.1 in
    let l = c.records in
    let n = c.in_ok-stamp.ensures in
    let e = c.in_err-finish.ensures in
    let start = at c.args.shelf.now c.args.out.now in
    let before = at l.shelf l.out in
    let taken = at c.next_record.new.shelf l.out in
    let after = at c.next_record.new.shelf c.finish.new.out in
    let idle = seen_idle before.shelf taken.shelf before.shelf taken.shelf before.out refl refl n.files n.faults (omega (arith, n.misses)) in
    let later = out_alone taken.shelf taken.out after.out e.faults in
    let none = ap (λ o. Ok o) c.in_default.is in
    let so = l.invariant.so_far script line bytes h opened in
    rw (p.1, p.2)
    (goes_seen c.args.input script line bytes start after _ _ _ _ _ (g.met.H.Files.seen_is c.args.shelf.now) (g.met.H.Files.seen_is c.next_record.new.shelf) (g.met.O.Lines.seen_is c.args.out.now) (g.met.O.Lines.seen_is c.finish.new.out)
    (end_breaks c.args.input script line bytes l.filtering l.reader start before so h.sound h.fits taken after idle (n.whole none) (n.end none) later refl c.in_err-finish.field-0.0
    (λ need limit is. e.no_limit need limit (ap (λ f. Err f) is)) (λ is. e.write (ap (λ f. Err f) is))
    (e.err (records_course script so.given) (records_frames so.given))))

-- the whole report was written
pub returns : goal.returns
returns g c = λ script line bytes h opened are.
    let at = stage_at g.H.Source.file g.H.Source.left g.H.Source.faults g.H.Source.misses g.O.Sink.held g.O.Sink.faults in
    let l = c.records in
    let n = c.in_ok-stamp.ensures in
    let e = c.in_ok-finish.ensures in
    let start = at c.args.shelf.now c.args.out.now in
    let before = at l.shelf l.out in
    let taken = at c.next_record.new.shelf l.out in
    let after = at c.next_record.new.shelf c.finish.new.out in
    let idle = seen_idle before.shelf taken.shelf before.shelf taken.shelf before.out refl refl n.files n.faults (omega (arith, n.misses)) in
    let later = out_alone taken.shelf taken.out after.out e.faults in
    let none = ap (λ o. Ok o) c.in_default.is in
    let so = l.invariant.so_far script line bytes h opened in
    goes_seen c.args.input script line bytes start after _ _ _ _ _ (g.met.H.Files.seen_is c.args.shelf.now) (g.met.H.Files.seen_is c.next_record.new.shelf) (g.met.O.Lines.seen_is c.args.out.now) (g.met.O.Lines.seen_is c.finish.new.out)
    (all_told c.args.input script line bytes l.filtering l.reader start before so h.sound h.fits taken after idle (n.whole none) (n.end none) later refl
    (e.ok (records_course script so.given) (records_frames so.given)))
