use Rattle.std.proofs.Common.{◌≡◌, ◌++◌, take, flat_map}
use Rattle.apf_generate.specs.RaListing.{lifetime_items}
use Rattle.apf_generate.proofs.ra.add_lifetimes.Given as goal

abbrev pub invariant-loop-lifetime : goal.invariant-loop-lifetime
invariant-loop-lifetime l = l.out ≡ l.fn.out ++ flat_map (lifetime_items l.away l.hold) (take l.lifetime-index l.lifetimes)
