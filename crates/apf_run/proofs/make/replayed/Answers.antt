use Rattle.std.proofs.Common.{ℕ, List, ◌≤◌, length, sym, ap, subst, ◌∙◌, arith}
use Rattle.pcap_files.specs.Capture.{capture}
use Rattle.pcap_files.specs.declared.kinds.Records.{Records}
use Rattle.made_input.proofs.Whole.{capture_short}
use Rattle.apf_run.proofs.Made.{made_few, ended_made}
use Rattle.apf_run.proofs.make.replayed.Goals as goal
use Rattle.apf_base.specs.Limits.{capture_limit}

pub records-requires : goal.records-requires
records-requires c =
    subst (λ (t : List ℕ). length t ≤ capture_limit) (sym (c.as_slice.ensures ∙ c.in_ok-bytes.ensures)) (capture_short c.args.n c.requires)

pub take_all-requires-clause-few : goal.take_all-requires-clause-few
take_all-requires-clause-few c =
    let list = c.as_slice-3.ensures ∙ ap (λ (r : Records). r.list) (c.in_ok-found.ensures.capture ∙ ap capture (c.as_slice.ensures ∙ c.in_ok-bytes.ensures)) in
    let few = ap length list ∙ made_few c.args.n c.requires in
    let none = c.in_ok-filtering.ensures.none in
    omega (arith, few, none, c.requires)

pub returns-clause-ok : goal.returns-clause-ok
returns-clause-ok c =
    let bytes = c.as_slice.ensures ∙ c.in_ok-bytes.ensures in
    let same = c.as_slice-2.ensures ∙ c.in_ok-bytes.ensures in
    let list = c.as_slice-3.ensures ∙ ap (λ (r : Records). r.list) (c.in_ok-found.ensures.capture ∙ ap capture (bytes ∙ sym same)) in
    ended_made c.args.n _ _ c.in_ok-filtering.filtering c.take_all.new.self c.take_rest.new.self same list c.in_ok-filtering.ensures.ok
    (λ k frames. c.in_ok-take_all.ensures.ok k frames) (λ k frames. c.in_ok-take_rest.ensures.ok k frames)
