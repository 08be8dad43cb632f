use Rattle.std.proofs.Common.{refl, sym, ap, subst, ◌∙◌, ℕ, ◌+◌, max, List, ◌++◌, ◌∷◌}
use Rattle.std.specs.Prelude.{◌&&◌}
use Rattle.ra_records.specs.Advert.{candidate}
use Rattle.filter_core.specs.Calls.{Renews}
use Rattle.filter_core.specs.Coded.{plain, IsAnswer}
use Rattle.filter_core.specs.Replay.{Course, answer, passes, after_due}
use Rattle.filter_core.specs.Standing.{filter_of}
use Rattle.filter_core.specs.Steps.{answer_of}
use Rattle.filter_core.specs.Taking.{installs_learnt, entries_learnt}
use Rattle.filter_core.specs.declared.install.Install.{Install}
use Rattle.filter_core.proofs.TakenFrames.{due_caught, due_frames, frame_filter, frame_told, learns_memory, learns_renews}
use Rattle.filter_core.proofs.living.Core.take.Goals as goal

pub returns-clause-left : goal.returns-clause-left
returns-clause-left c = λ course. sym (ap (λ (d : Course). d.events) (c.due-count.ensures.due course))

pub returns-clause-filter : goal.returns-clause-filter
returns-clause-filter c = λ course start same.
    let second = c.args.second in
    let a = c.answer-answer in
    let at = due_caught second course c.args.events.now c.split_at.result.0.now c.due-count.result _ (c.due-count.ensures.due course) c.split_at.ensures.front same (c.in_ok-catch_up.ensures.filter course start) in
    frame_filter (after_due second course course.events) c.catch_up.new.self a.new.self second c.args.frame.now a.result at a.ensures.answer a.ensures.clock a.ensures.install a.ensures.held a.ensures.added
    (passes a.result.verdict && candidate c.args.frame.now) c.in_ok-reply.reply c.learn.new.self refl c.in_ok-reply.ensures.ok

pub returns-clause-told : goal.returns-clause-told
returns-clause-told c = λ course start same.
    let second = c.args.second in
    let frame = c.args.frame.now in
    let a = c.answer-answer in
    let t = passes a.result.verdict && candidate frame in
    let caught = c.catch_up.new.self in
    let new = c.learn.new.self in
    let d = after_due second course course.events in
    let at = due_caught second course c.args.events.now c.split_at.result.0.now c.due-count.result _ (c.due-count.ensures.due course) c.split_at.ensures.front same (c.in_ok-catch_up.ensures.filter course start) in
    record {
      caught = caught;
      due = at;
      stays = c.in_ok-catch_up.ensures.stays;
      renews =
          subst (λ (i : Install). Renews (installs_learnt c.in_ok-reply.reply) i new.install) a.ensures.install
          (learns_renews frame second a.new.self new t c.in_ok-reply.reply c.in_ok-reply.ensures.ok);
      answered =
          subst (λ (memory : List ℕ). IsAnswer caught.install frame (max caught.clock second) c.args.self.now.memory a.result memory) (sym (learns_memory frame second a.new.self new t c.in_ok-reply.reply c.in_ok-reply.ensures.ok))
          (subst (λ (memory : List ℕ). IsAnswer caught.install frame (max caught.clock second) memory a.result a.new.self.memory) c.in_ok-catch_up.ensures.memory a.ensures.answer);
      told =
          frame_told d caught a.new.self second frame a.result at a.ensures.answer a.ensures.clock a.ensures.install a.ensures.held a.ensures.added t c.in_ok-reply.reply new refl c.in_ok-reply.ensures.ok
          ∙ ap (λ (n : ℕ). d.told ++ answer (n + 1) (answer_of (plain caught.install) frame (max caught.clock second)) ∷ entries_learnt (n + 1) (filter_of new) c.in_ok-reply.reply) (due_frames second course course.events);
    }
