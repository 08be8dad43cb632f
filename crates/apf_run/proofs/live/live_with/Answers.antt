use Rattle.std.proofs.Common.{ℕ, List, Option, ap, subst, sym, ◌∙◌, ◌≡◌}
use Rattle.std.specs.Prelude.{IfSome}
use Rattle.std.proofs.lemmas.Result.{on_ok_weaker}
use Rattle.command_plan.specs.Files.{input}
use Rattle.command_plan.specs.Follows.{Shelving}
use Rattle.command_plan.specs.declared.fault.FileKind.TheVariants as files
use Rattle.command_plan.specs.Plan.{MayFetch, ◌>>=◌}
use Rattle.command_plan.proofs.Fetching.{asked, asked_fits, behind_read, behind_think}
use Rattle.apf_run.specs.Filter.{reads_script}
use Rattle.apf_run.specs.Live.{HasLived, lives_over}
use Rattle.apf_run.proofs.Lives.{known_file, same_files, script_read}
use Rattle.apf_run.proofs.live.live_with.Goals as goal

pub script_of-requires : goal.script_of-requires
script_of-requires g c = asked_fits _ _ _ _ _ _ c.as_slice.ensures c.in_ok-text.ensures

pub live_over-requires-clause-may : goal.live_over-requires-clause-may
live_over-requires-clause-may g c = λ κs within.
    behind_think g.H.Shelf.may (reads_script c.as_slice.result.now) (λ read. lives_over read c.args.path.now c.args.lanes) c.in_ok-read.read c.in_ok-read.ensures.script
    (subst (λ (text : List ℕ). MayFetch g.H.Shelf.may (reads_script text >>= λ read. lives_over read c.args.path.now c.args.lanes)) (sym c.as_slice.ensures)
    (behind_read _ _ _ _ _ _ c.in_ok-text.ensures c.requires.may))

pub returns-clause-lived : goal.returns-clause-lived
returns-clause-lived g c =
    let text = c.as_slice.result.now in
    let path = c.args.path.now in
    let held = asked (input files.Script 1) c.args.script.now _ _ _ c.in_ok-text.ensures in
    let same = subst (λ (x : List ℕ). IfSome ((g.H.Files.seen c.args.shelf.now).file c.args.script.now) (λ told. x ≡ told)) (sym c.as_slice.ensures) held.same in
    let seen = ap (λ (s : Shelving). s.file c.args.script.now) (g.met.H.Files.seen_is c.args.shelf.now) in
    let old = ap (λ (s : Shelving). s.file path) (g.met.H.Files.seen_is c.args.shelf.now) in
    let new = ap (λ (s : Shelving). s.file path) (g.met.H.Files.seen_is c.ask.new.self) in
    let kept = sym new ∙ ap (λ (f : List ℕ → Option (List ℕ)). f path) (same_files (input files.Script 1) c.args.script.now _ _ _ c.in_ok-text.ensures) ∙ old in
    on_ok_weaker c.live_over.result
    (λ lived. known_file (g.H.Source.file c.args.shelf.now c.args.script.now) text
    (λ all. IfSome (g.H.Source.file c.args.shelf.now path) (λ bytes. HasLived all bytes c.args.lanes c.live_over.new.ends (g.O.Sink.held c.args.out.now) (g.O.Sink.held c.live_over.new.out)))
    (subst (λ (o : Option (List ℕ)). IfSome o (λ told. text ≡ told)) seen same)
    (subst (λ (o : Option (List ℕ)). IfSome o (λ bytes. HasLived text bytes c.args.lanes c.live_over.new.ends (g.O.Sink.held c.args.out.now) (g.O.Sink.held c.live_over.new.out))) kept lived))
    (c.live_over.ensures.lived text (script_read text c.in_ok-read.read c.in_ok-read.ensures.script))
