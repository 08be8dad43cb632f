use Rattle.std.proofs.Common.{◌≡◌, ℕ, List, ◌++◌, length, ap, ◌∙◌, arith}
use Rattle.std.proofs.lemmas.Result.{on_ok_weaker}
use Rattle.made_input.specs.MadeFrames.{made_frame}
use Rattle.made_input.proofs.Records.{frame_short, record_is}
use Rattle.made_input.proofs.capture.add_record.Goals as goal

pub overflow_cast-stamp : goal.overflow_cast-stamp
overflow_cast-stamp c =
    let size : c.len.result ≡ length (made_frame c.args.k) = c.len.ensures ∙ ap length c.in_ok-frame.ensures in
    let short = frame_short c.args.k in
    omega arith

pub put-requires : goal.put-requires
put-requires c =
    let size : length c.as_slice.result.now ≡ length (made_frame c.args.k) = ap length (c.as_slice.ensures ∙ c.in_ok-frame.ensures) in
    let short = frame_short c.args.k in
    omega arith

pub returns : goal.returns
returns c =
    on_ok_weaker c.put.result
    (λ e. e ∙ ap (λ (t : List ℕ). c.args.out.now ++ t) (record_is c.args.k c.len.result c.in_ok-frame.frame c.as_slice.result.now c.in_ok-frame.ensures c.as_slice.ensures c.len.ensures))
    c.put.ensures.ok
