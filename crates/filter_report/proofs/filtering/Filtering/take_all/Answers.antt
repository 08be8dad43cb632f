use Rattle.std.proofs.Common.{refl, rules, arith, sym, subst, ◌++◌, ◌∷◌, ◌+◌, [], List, ℕ, take, fold, map, get_or}
use Rattle.std.proofs.lemmas.List.{append-nil, take_all}
use Rattle.pcap_files.specs.declared.kinds.Placed.{Placed}
use Rattle.std.proofs.lemmas.Result.{err_from_is_err_and}
use Rattle.filter_core.specs.Replay.{after_arrival}
use Rattle.pcap_files.specs.Capture.{frame_of}
use Rattle.filter_report.proofs.Adding.{adds_adds, adds_breaks, adds_later, adds_none, breaks_later, passed_on}
use Rattle.filter_report.proofs.Leading.{along_fits, leads_records}
use Rattle.filter_report.proofs.Reporting.{records_one, no_record}
use Rattle.filter_report.specs.Along.{InCourse}
use Rattle.filter_core.specs.Arrivals.{arrival_of, arrivals_of}
use Rattle.filter_report.specs.Lines.{Adds, BreaksOff}
use Rattle.filter_report.specs.Report.{Leads}
use Rattle.filter_report.proofs.filtering.Filtering.take_all.Goals as goal

pub loop-placed-init : goal.loop-placed-init
loop-placed-init g c = record {
  written = λ course frames. adds_none (InCourse course c.args.self.now frames) (InCourse course c.args.self.now (frames ++ [])) _
      (λ lines before. subst (λ (fs : List (List ℕ)). InCourse course c.args.self.now fs lines) (sym (append-nil frames)) before);
  count = omega arith;
  faults = omega arith;
}

pub loop-placed-preserved : goal.loop-placed-preserved
loop-placed-preserved g c = record {
  written = λ course frames.
      let i = c.loop-placed.placed-index in
      let records = c.args.records.now in
      let d = fold after_arrival course (arrivals_of c.args.capture.now (take i records)) in
      let fs = frames ++ map (frame_of c.args.capture.now) (take i records) in
      adds_later (InCourse course c.args.self.now frames) (InCourse (after_arrival d (arrival_of c.args.capture.now (get_or records i no_record))) c.take_record.new.self (fs ++ frame_of c.args.capture.now (get_or records i no_record) ∷ [])) (InCourse (fold after_arrival course (arrivals_of c.args.capture.now (take (i + 1) records))) c.take_record.new.self (frames ++ map (frame_of c.args.capture.now) (take (i + 1) records))) _ _
      (λ start lines before after. records_one c.args.capture.now course records i no_record (get_or records i no_record) frames lines c.take_record.new.self (search rules) refl after)
      (adds_adds (InCourse course c.args.self.now frames) (InCourse d c.loop-placed.self fs) (InCourse (after_arrival d (arrival_of c.args.capture.now (get_or records i no_record))) c.take_record.new.self (fs ++ frame_of c.args.capture.now (get_or records i no_record) ∷ [])) _ _ _
      (c.loop-placed.invariant.written course frames)
      (rw (sym c.frame_at-frame.ensures.frame) (c.in_ok-take_record.ensures.ok d fs)));
  count = omega (arith, c.loop-placed.invariant.count, c.in_ok-take_record.ensures.frames);
  faults = omega (arith, c.loop-placed.invariant.faults, c.in_ok-take_record.ensures.faults);
}

pub returns-in_err-take_record-clause-err : goal.returns-in_err-take_record-clause-err
returns-in_err-take_record-clause-err g c = λ course frames.
    let p = err_from_is_err_and c.from_residual.result c.from_residual.ensures.1 in
    let i = c.loop-placed.placed-index in
    let records = c.args.records.now in
    let capture = c.args.capture.now in
    let d = fold after_arrival course (arrivals_of capture (take i records)) in
    let fs = frames ++ map (frame_of capture) (take i records) in
    let Before = InCourse course c.args.self.now frames in
    let Broken = Leads (after_arrival d (arrival_of capture (get_or records i no_record))).told (fs ++ frame_of capture (get_or records i no_record) ∷ []) in
    let Later = Leads (fold after_arrival course (arrivals_of capture records)).told (frames ++ map (frame_of capture) records) in
    passed_on (λ fault. BreaksOff fault Before Later (g.O.Sink.held c.args.out.now) (g.O.Sink.held c.take_record.new.out)) _ p.0 c.in_err-take_record.field-0.0 p.1 p.2
    (breaks_later Before Broken Later _ _ c.in_err-take_record.field-0.0
    (λ start lines before lead. leads_records capture course records i no_record (get_or records i no_record) frames lines (along_fits course c.args.self.now.core frames start before.along) (search rules) refl lead)
    (adds_breaks Before (InCourse d c.loop-placed.self fs) Broken _ (g.O.Sink.held c.loop-placed.out) (g.O.Sink.held c.take_record.new.out) c.in_err-take_record.field-0.0
    (c.loop-placed.invariant.written course frames) (rw (sym c.frame_at-frame.ensures.frame) (c.in_err-take_record.ensures.err d fs))))

pub returns-clause-ok : goal.returns-clause-ok
returns-clause-ok g c = λ course frames.
    subst (λ (rs : List Placed). Adds (InCourse course c.args.self.now frames) (InCourse (fold after_arrival course (arrivals_of c.args.capture.now rs)) c.loop-placed.self (frames ++ map (frame_of c.args.capture.now) rs)) (g.O.Sink.held c.args.out.now) (g.O.Sink.held c.loop-placed.out))
    (take_all c.loop-placed.placed-index c.args.records.now (search rules)) (c.loop-placed.invariant.written course frames)
