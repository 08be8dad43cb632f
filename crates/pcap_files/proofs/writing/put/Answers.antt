use Rattle.std.proofs.lemmas.Result.{on_ok_weaker}
use Rattle.std.proofs.Common.{ap, ◌∙◌, List, ◌++◌, ℕ}
use Rattle.pcap_files.proofs.Adding.{put_reads_back}
use Rattle.pcap_files.proofs.writing.put.Goals as goal

pub returns-clause-reads_back : goal.returns-clause-reads_back
returns-clause-reads_back c =
    on_ok_weaker c.append.result
    (λ e. put_reads_back c.args.kind c.args.stamp c.args.frame.now c.args.out.now c.requires c.in_ok-record_bytes.ensures.range c.append.new.self (e ∙ ap (λ (bytes : List ℕ). c.args.out.now ++ bytes) c.in_ok-record_bytes.ensures.bytes))
    c.append.ensures.ok
