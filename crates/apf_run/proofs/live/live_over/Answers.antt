use Rattle.std.proofs.Common.{ℕ, List, Option, ap, subst, sym, ◌∙◌, ◌≡◌}
use Rattle.std.specs.Prelude.{IfSome}
use Rattle.std.proofs.lemmas.Result.{on_ok_weaker}
use Rattle.command_plan.specs.Files.{input}
use Rattle.command_plan.specs.Follows.{Shelving}
use Rattle.command_plan.specs.declared.fault.FileKind.TheVariants as files
use Rattle.command_plan.specs.Plan.{◌>>=◌, asks, unless}
use Rattle.command_plan.proofs.Fetching.{asked, asked_fits, behind_think, may_ask}
use Rattle.pcap_files.specs.Capture.{capture}
use Rattle.apf_run.specs.Filter.{script_refusal}
use Rattle.apf_run.specs.Live.{HasLived, capture_refusal, lives}
use Rattle.apf_run.proofs.Lives.{known_file}
use Rattle.apf_run.proofs.live.live_over.Goals as goal

pub ask-requires : goal.ask-requires
ask-requires g c =
    let script = c.args.script in
    may_ask g.H.Shelf.may (input files.Capture 2) c.args.path.now (λ bytes. unless (capture_refusal (capture bytes).end) >>= λ _. lives script bytes c.args.lanes)
    (behind_think g.H.Shelf.may (unless (script_refusal script)) (λ _. asks (input files.Capture 2) c.args.path.now >>= λ bytes. unless (capture_refusal (capture bytes).end) >>= λ _. lives script bytes c.args.lanes) tt c.in_ok-told.ensures.plan c.requires.may)

pub frames_of-requires : goal.frames_of-requires
frames_of-requires g c = asked_fits _ _ _ _ _ _ c.as_slice-bytes.ensures c.in_ok-file.ensures

pub returns-clause-lived : goal.returns-clause-lived
returns-clause-lived g c = λ text is.
    let t = c.in_ok-told.ensures.told in
    let frames = c.as_slice.ensures ∙ c.in_ok-frames.ensures.frames in
    let held = asked (input files.Capture 2) c.args.path.now _ _ _ c.in_ok-file.ensures in
    let same = subst (λ (x : List ℕ). IfSome ((g.H.Files.seen c.args.shelf.now).file c.args.path.now) (λ told. x ≡ told)) (sym c.as_slice-bytes.ensures) held.same in
    let seen = ap (λ (s : Shelving). s.file c.args.path.now) (g.met.H.Files.seen_is c.args.shelf.now) in
    on_ok_weaker c.report.result
    (λ lived. known_file (g.H.Source.file c.args.shelf.now c.args.path.now) c.as_slice-bytes.result.now (λ bytes. HasLived text bytes c.args.lanes _ _ _) (subst (λ (o : Option (List ℕ)). IfSome o (λ told. c.as_slice-bytes.result.now ≡ told)) seen same) lived)
    (c.report.ensures.lived c.args.script text is t frames)
