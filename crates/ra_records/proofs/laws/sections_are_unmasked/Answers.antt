use Rattle.ra_records.proofs.Unmasked.{each-once, past-none, sections-some, sections-apart}
use Rattle.ra_records.proofs.laws.sections_are_unmasked.Goals as goal

pub returns : goal.returns
returns c = record { once = each-once; past = past-none; some = sections-some; apart = sections-apart }
