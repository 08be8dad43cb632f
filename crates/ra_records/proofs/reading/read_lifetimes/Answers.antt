use Rattle.std.proofs.Common.{◌+◌, ◌*◌, ℕ, drop, length, arith, sym, ap, ◌∙◌, length-drop}
use Rattle.ra_records.specs.Options.{options_from, with_lifetimes}
use Rattle.ra_records.proofs.Walk.{goes_on, whole}
use Rattle.ra_records.proofs.reading.read_lifetimes.Goals as goal

pub loop-rest-preserved : goal.loop-rest-preserved
loop-rest-preserved c =
    let none = sym c.option_refusal.ensures ∙ c.in_default.is in
    let is = whole c.loop-rest.at c.loop-rest.rest.now none in
    let there = c.split_at-in-loop-rest.ensures.back ∙ ap (λ (n : ℕ). drop (8 * n) c.loop-rest.rest.now) c.from-size.ensures in
    record {
      found = ap (λ (n : ℕ). with_lifetimes c.add_lifetimes.new.list (options_from 0 (c.loop-rest.at + 8 * n) c.split_at-in-loop-rest.result.1.now)) c.from-size.ensures
          ∙ goes_on c.loop-rest.list c.add_lifetimes.new.list c.loop-rest.at c.loop-rest.rest.now c.split_at-in-loop-rest.result.1.now _ none c.in_ok-add_lifetimes.ensures there c.loop-rest.invariant.found;
      place = omega (arith, c.from-size.ensures, is.fits, ap length c.split_at-in-loop-rest.ensures.back, length-drop (8 * c.from-size.result) c.loop-rest.rest.now);
    }
