-- A frame that matches is as long as the record, so each lifetime lies in it.
use Rattle.std.proofs.Common.{sym, ◌∙◌}
use Rattle.ra_records.proofs.Matching.{same_long, numbers_in}
use Rattle.policy_state.proofs.records.advertised_again.Goals as goal

pub all_last-requires : goal.all_last-requires
all_last-requires c =
    numbers_in c.args.chosen.now.advert.bytes c.args.frame.now c.args.chosen.now.advert.lifetimes c.lifetimes-2.result.now c.lifetimes-2.ensures.sound
    (same_long c.args.chosen.now.advert c.args.frame.now (sym c.matches.ensures ∙ c.if-not-matches.false)) c.lifetimes-2.ensures.value
