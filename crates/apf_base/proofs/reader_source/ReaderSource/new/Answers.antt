use Rattle.std.proofs.Common.{ap, ℕ, List, Option}
use Rattle.std.proofs.KnownBytes.{prepend_known-nil}
use Rattle.apf_base.specs.System.{Reading}
use Rattle.apf_base.proofs.reader_source.ReaderSource.new.Goals as goal

pub returns : goal.returns
returns g c = let P : Option (List ℕ) → Reading = λ left. record { left = left; given = 0; faults = 0; misses = 0 } in ap P (prepend_known-nil (g.R.Read.remaining c.args.reader))
