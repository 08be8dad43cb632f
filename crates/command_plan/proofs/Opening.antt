-- A capture whose file header was taken.
use Rattle.std.proofs.Common.{◌≡◌, ℕ, List, drop, Option, None, Some, IfSome, Ok, sym, ap, ◌∙◌, drop_at}
use Rattle.std.specs.Io.KnownBytes.{Keeps}
use Rattle.pcap_files.specs.Capture.{capture}
use Rattle.pcap_files.specs.Stream.{Reader, Starts, TakesBytes, told}
use Rattle.command_plan.specs.Records.{HasOpened}

-- the reader gives what the file tells, and the bytes behind the header are left
pub starts_telling : (bytes before left : Option (List ℕ)) (reader : Reader) → Keeps bytes before → Starts before left (Ok reader) → TakesBytes 24 before left
    → HasOpened bytes left reader
starts_telling None before left reader keeps starts taken = record { telling = tt; behind = tt }
starts_telling (Some all) None left reader keeps starts taken = absurd keeps
starts_telling (Some all) (Some bytes) None reader keeps starts taken = absurd starts.ok
starts_telling (Some all) (Some bytes) (Some rest) reader keeps starts taken =
    let same : bytes ≡ all = keeps in
    let behind : rest ≡ drop 24 all = sym (drop_at taken.0 rest 24 taken.2) ∙ ap (drop 24) (sym taken.1 ∙ same) in
    record {
      telling = ap told (sym same) ∙ starts.ok.0;
      behind = if_some (capture all).kind (ap (λ (l : List ℕ). Some l) behind);
    }
  where
    if_some : {X : Type 0} {P : Type 0} (o : Option X) → P → IfSome o (λ x. P)
    if_some None p = tt
    if_some (Some x) p = p
