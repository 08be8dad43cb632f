use Rattle.apf_disasm.proofs.Uniqueness.{some_listing, one_listing}
use Rattle.apf_disasm.proofs.laws.listings_are_determined.Goals as goal

pub returns-clause-some : goal.returns-clause-some
returns-clause-some c = some_listing

pub returns-clause-one : goal.returns-clause-one
returns-clause-one c code first second l m = one_listing code 0 first second l m
