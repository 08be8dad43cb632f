use Rattle.ra_records.proofs.Tiles.{options-some, options-one, options-accepted}
use Rattle.ra_records.proofs.laws.options_tile_the_frame.Goals as goal

pub returns : goal.returns
returns c = record { some = options-some; one = options-one; accepted = options-accepted }
