-- After an `Err` the old items stand at the front.
use Rattle.std.proofs.Common.{refl}
use Rattle.apf_coding.proofs.Appends.{extends_more, on_err}
use Rattle.ra_records.specs.Advert.{sections}
use Rattle.ra_records.proofs.Matching.{within_of}
use Rattle.apf_generate.proofs.ra.add_ra.Goals as goal

pub add_sections-requires : goal.add_sections-requires
add_sections-requires c =
    within_of c.args.chosen.now.advert.bytes c.bytes-bytes.result.now c.args.chosen.now.advert.lifetimes (sections c.args.chosen.now.advert) c.sections-sections.result.now
    c.sections-sections.ensures.sound refl c.bytes-bytes.ensures.value c.sections-sections.ensures.value

pub returns-in_err-add_sections-clause-err : goal.returns-in_err-add_sections-clause-err
returns-in_err-add_sections-clause-err c =
    on_err c.from_residual-in_err-add_sections.result _ (extends_more c.args.out.now _ c.append.new.self c.add_sections.new.out c.in_ok-append.ensures.ok c.in_err-add_sections.ensures.err)

pub returns-in_err-add_lifetimes-clause-err : goal.returns-in_err-add_lifetimes-clause-err
returns-in_err-add_lifetimes-clause-err c =
    let more = extends_more c.append.new.self _ c.add_sections.new.out c.add_lifetimes.new.out c.in_ok-add_sections.ensures.ok c.in_err-add_lifetimes.ensures.err in
    on_err c.from_residual-in_err-add_lifetimes.result _ (extends_more c.args.out.now _ c.append.new.self c.add_lifetimes.new.out c.in_ok-append.ensures.ok more)
