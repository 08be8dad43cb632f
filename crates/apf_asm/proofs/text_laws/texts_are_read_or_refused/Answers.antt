use Rattle.apf_asm.proofs.TextLaws.{either, not_both, one_reading, one_refusal}
use Rattle.apf_asm.proofs.text_laws.texts_are_read_or_refused.Goals as goal

pub returns-clause-either : goal.returns-clause-either
returns-clause-either c = either

pub returns-clause-not_both : goal.returns-clause-not_both
returns-clause-not_both c = not_both

pub returns-clause-one_reading : goal.returns-clause-one_reading
returns-clause-one_reading c = one_reading

pub returns-clause-one_refusal : goal.returns-clause-one_refusal
returns-clause-one_refusal c = one_refusal
