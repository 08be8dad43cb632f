-- The answer in handed-in memory is the answer.
use Rattle.std.proofs.Common.{inl}
use Rattle.apf_check.proofs.checking.check.Goals as goal

pub returns-in-Ok-clause-accepts : goal.returns-in-Ok-clause-accepts
returns-in-Ok-clause-accepts c count o = let same = c.in-Ok.ensures.accepts count o in inl cc

pub returns-in-Ok-clause-refuses : goal.returns-in-Ok-clause-refuses
returns-in-Ok-clause-refuses c flaw is = let same = c.in-Ok.ensures.refuses flaw is in absurd cc

pub returns-clause-accepts : goal.returns-clause-accepts
returns-clause-accepts c count o = let same = c.in-Err.ensures.accepts count o in absurd cc

pub returns-clause-refuses : goal.returns-clause-refuses
returns-clause-refuses c flaw is = let same = c.in-Err.ensures.refuses flaw is in inl cc
