use Rattle.std.proofs.lemmas.Result.{on_ok_weaker}
use Rattle.std.proofs.Common.{ap, ◌∙◌, List, ◌++◌, ℕ}
use Rattle.pcap_files.proofs.Adding.{head_reads_back}
use Rattle.pcap_files.proofs.writing.head.Goals as goal

pub returns-clause-reads_back : goal.returns-clause-reads_back
returns-clause-reads_back c =
    on_ok_weaker c.append.result
    (λ e. head_reads_back c.args.kind c.args.out.now c.append.new.self (e ∙ ap (λ (bytes : List ℕ). c.args.out.now ++ bytes) c.in_ok-head_bytes.ensures))
    c.append.ensures.ok
