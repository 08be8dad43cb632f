use Rattle.std.proofs.Common.{ℕ, List, ◌-◌, ◌≡◌, ◌++◌, ap, ◌∙◌, arith}
use Rattle.std.specs.List.{flat_map, range_with_len}
use Rattle.pcap_files.specs.Writing.{head_bytes}
use Rattle.made_input.specs.MadeCaptures.{made_kind, made_record, made_capture}
use Rattle.made_input.proofs.Counting.{turn}
use Rattle.made_input.proofs.capture.made_capture.Goals as goal

pub loop-k-preserved : goal.loop-k-preserved
loop-k-preserved c =
    c.in_ok-add_record.ensures
    ∙ ap (λ (t : List ℕ). t ++ made_record c.loop-k.k) c.loop-k.invariant
    ∙ turn made_record (head_bytes made_kind) c.loop-k.k (omega arith)

pub returns : goal.returns
unfolding made_capture
returns c =
    let last : c.loop-k.k - 1 ≡ c.args.n = omega arith in
    c.loop-k.invariant ∙ ap (λ (n : ℕ). head_bytes made_kind ++ flat_map made_record (range_with_len 1 n)) last
