use Rattle.std.proofs.Common.{ℕ, List, ◌≡◌, ◌-◌, ◌<◌, ◌^◌, ◌%◌, length, get_or, None, sym, ap, subst, ◌∙◌, arith, rules}
use Rattle.std.specs.Prelude.{All}
use Rattle.std.proofs.lemmas.List.{length-map}
use Rattle.apf_base.specs.Lending.{overwritten}
use Rattle.filter_core.specs.Arrivals.{arrival_of, arrivals_of}
use Rattle.program_swap.specs.Driving.{dealt_frames, MayAnswer, MayEnd, AreDone, AreEnded}
use Rattle.program_swap.specs.Order.{LaneState, EndState}
use Rattle.program_swap.proofs.Living.{entered_by, refused_by, may-answer, may-end, done-length, overwritten-all, told-board, ended-length, all-whole, some-short}
use Rattle.program_swap.proofs.ending.answer_all.Goals as goal

pub beside-told-requires-clause-room : goal.beside-told-requires-clause-room
beside-told-requires-clause-room g c κs within =
    let installer = c.args.installer.now in
    subst (λ (ls : List LaneState). (i : ℕ) (d : LaneState) → i < length ls → MayAnswer (dealt_frames i (length ls - 1) c.args.capture.now c.args.frames.now) (get_or ls i d)) (sym c.as_mut_slice.ensures.items)
    (may-answer installer.board installer.published c.args.capture.now c.args.frames.now c.args.lanes c.requires.fresh c.requires.room)

pub close_all-requires : goal.close_all-requires
close_all-requires g c =
    let installer = c.args.installer.now in
    let xs = arrivals_of c.args.capture.now c.args.frames.now in
    let lanes = c.args.lanes in
    let new = c.beside-told.new.lanes in
    let done = subst (λ (ls : List LaneState). AreDone ls 0 (length ls - 1) xs new) c.as_mut_slice.ensures.items c.beside-told.ensures.lanes in
    let whole = overwritten-all lanes new (done-length (length lanes - 1) 0 xs lanes new done) in
    subst (λ (ls : List LaneState). All (MayEnd None) ls) (sym whole) (may-end installer.board installer.published None (length lanes - 1) 0 xs lanes new tt c.requires.fresh done)

pub close_all-requires-2 : goal.close_all-requires-2
close_all-requires-2 g c =
    let installer = c.args.installer.now in
    let xs = arrivals_of c.args.capture.now c.args.frames.now in
    let lanes = c.args.lanes in
    let new = c.beside-told.new.lanes in
    let token = c.in-Ok.token in
    let done = subst (λ (ls : List LaneState). AreDone ls 0 (length ls - 1) xs new) c.as_mut_slice.ensures.items c.beside-told.ensures.lanes in
    let whole = overwritten-all lanes new (done-length (length lanes - 1) 0 xs lanes new done) in
    let told = told-board installer c.beside-told.new.installer c.args.nexts.now token c.in-Ok.ensures.token in
    subst (λ (ls : List LaneState). All (MayEnd token) ls) (sym whole) (may-end installer.board installer.published token (length lanes - 1) 0 xs lanes new told c.requires.fresh done)

pub returns-then-entered-frames-clause-not_entered : goal.returns-then-entered-frames-clause-not_entered
returns-then-entered-frames-clause-not_entered g c e =
    let installer = c.args.installer.now in
    let xs = arrivals_of c.args.capture.now c.args.frames.now in
    let lanes = c.args.lanes in
    let new = c.beside-told.new.lanes in
    let token = c.in-Ok.token in
    let ends = c.in_ok-ends.ends in
    let done = subst (λ (ls : List LaneState). AreDone ls 0 (length ls - 1) xs new) c.as_mut_slice.ensures.items c.beside-told.ensures.lanes in
    let whole = overwritten-all lanes new (done-length (length lanes - 1) 0 xs lanes new done) in
    let ended = subst (λ (ls : List LaneState). AreEnded token ls ends) whole c.in_ok-ends.ensures.ok in
    let counted : c.entered.result ≡ entered_by ends % 2 ^ 64 = c.entered.ensures ∙ ap (λ (es : List EndState). entered_by es % 2 ^ 64) c.as_slice.ensures in
    let long = length-map c.args.frames.now (arrival_of c.args.capture.now) in
    let small : length c.args.frames.now < 2 ^ 64 = search rules in
    let short = some-short installer.board installer.published token xs lanes new ends c.entered.result c.requires.lanes c.requires.fresh done ended counted (λ same. c.if-entered-frames.true (same ∙ long)) (omega (arith, long, small)) in
    let rose = c.in_ok-ends.ensures.refused in
    let refused = ap refused_by whole in
    omega (arith, short, rose, refused, c.requires.places)

pub returns-clause-answered : goal.returns-clause-answered
returns-clause-answered g c =
    let installer = c.args.installer.now in
    let xs = arrivals_of c.args.capture.now c.args.frames.now in
    let lanes = c.args.lanes in
    let new = c.beside-told.new.lanes in
    let token = c.in-Ok.token in
    let ends = c.in_ok-ends.ends in
    let done = subst (λ (ls : List LaneState). AreDone ls 0 (length ls - 1) xs new) c.as_mut_slice.ensures.items c.beside-told.ensures.lanes in
    let whole = overwritten-all lanes new (done-length (length lanes - 1) 0 xs lanes new done) in
    let ended = subst (λ (ls : List LaneState). AreEnded token ls ends) whole c.in_ok-ends.ensures.ok in
    let counted : c.entered.result ≡ entered_by ends % 2 ^ 64 = c.entered.ensures ∙ ap (λ (es : List EndState). entered_by es % 2 ^ 64) c.as_slice.ensures in
    let long = length-map c.args.frames.now (arrival_of c.args.capture.now) in
    let same : c.entered.result ≡ length xs = omega (arith, c.if-entered-frames.false, long) in
    all-whole installer c.beside-told.new.installer c.args.nexts.now token xs lanes new ends c.entered.result c.in-Ok.ensures.token c.requires.lanes c.requires.fresh done ended counted same (omega (arith, counted, same))

pub returns-clause-count : goal.returns-clause-count
returns-clause-count g c =
    let xs = arrivals_of c.args.capture.now c.args.frames.now in
    let lanes = c.args.lanes in
    let new = c.beside-told.new.lanes in
    let done = subst (λ (ls : List LaneState). AreDone ls 0 (length ls - 1) xs new) c.as_mut_slice.ensures.items c.beside-told.ensures.lanes in
    let same = done-length (length lanes - 1) 0 xs lanes new done in
    ended-length c.in-Ok.token (overwritten lanes new) c.in_ok-ends.ends c.in_ok-ends.ensures.ok ∙ ap length (overwritten-all lanes new same) ∙ same
