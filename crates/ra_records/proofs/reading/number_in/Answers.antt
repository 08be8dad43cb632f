use Rattle.std.proofs.Common.{ℕ, Option, ap, ◌∙◌}
use Rattle.std.specs.Option.{unwrap_or}
use Rattle.ra_records.proofs.Least.{number_seen}
use Rattle.ra_records.proofs.reading.number_in.Goals as goal

pub returns : goal.returns
returns c = c.unwrap_or.ensures ∙ ap (λ (o : Option ℕ). unwrap_or o 0) (c.number.ensures ∙ number_seen c.args.frame.now c.args.span c.requires.within)
