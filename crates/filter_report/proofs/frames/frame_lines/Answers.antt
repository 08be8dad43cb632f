use Rattle.std.proofs.Common.{refl, sym, ap, ◌∙◌, ◌∷◌, ◌+◌, Bool, None, List, ℕ}
use Rattle.std.specs.Prelude.{◌&&◌}
use Rattle.ra_records.specs.Advert.{candidate}
use Rattle.filter_core.specs.Replay.{passed, passes, answers_of}
use Rattle.filter_report.proofs.Learning.{frame_along, frame_passed, learnt_is_advertisement, learnt_has_memory}
use Rattle.script_text.specs.Report.{frame_line}
use Rattle.filter_report.specs.Text.{with_one, lines_learnt}
use Rattle.filter_report.proofs.frames.frame_lines.Goals as goal

pub learnt_lines-requires-clause-advertisement : goal.learnt_lines-requires-clause-advertisement
learnt_lines-requires-clause-advertisement c =
    learnt_is_advertisement c.args.frame.now c.args.second c.answer-answer.new.self c.learn.new.self (passes c.answer-answer.result.verdict) c.in_ok-reply.reply c.in_ok-reply.ensures.ok

pub learnt_lines-requires-clause-memory : goal.learnt_lines-requires-clause-memory
learnt_lines-requires-clause-memory c =
    learnt_has_memory c.args.frame.now c.args.second c.answer-answer.new.self c.learn.new.self (passes c.answer-answer.result.verdict) c.in_ok-reply.reply c.in_ok-reply.ensures.ok

pub returns-clause-along : goal.returns-clause-along
returns-clause-along c = λ course frames lines along k.
    let a = c.answer-answer in
    let frame = c.args.frame.now in
    let count = k ∙ ap (λ (n : ℕ). n + 1) (sym along.taken) in
    frame_along course c.args.core.now a.new.self frames lines c.args.second frame a.result along a.ensures.answer a.ensures.clock a.ensures.install a.ensures.held a.ensures.added
    (passes a.result.verdict && candidate frame) c.in_ok-reply.reply c.learn.new.self _ refl c.in_ok-reply.ensures.ok
    (ap (λ (l : List ℕ). l ∷ c.in_ok-more.more) (c.in_ok-line.ensures ∙ ap (λ (n : ℕ). frame_line n None a.result) count)
    ∙ ap (λ (ls : List (List ℕ)). frame_line (course.frames + 1) None a.result ∷ ls) (c.in_ok-more.ensures ∙ ap (λ i. lines_learnt c.args.k c.in_ok-reply.reply i) c.install.ensures ∙ ap (λ (n : ℕ). lines_learnt n c.in_ok-reply.reply c.learn.new.self.install) count))

pub returns-clause-passed : goal.returns-clause-passed
returns-clause-passed c = λ course frames lines along.
    let a = c.answer-answer in
    frame_passed course c.args.core.now a.new.self frames lines c.args.second c.args.frame.now a.result along a.ensures.answer a.ensures.clock a.ensures.install a.ensures.held a.ensures.added
    ∙ ap (λ (b : Bool). with_one b (passed (answers_of course.told))) (sym c.passes-passed.ensures)
