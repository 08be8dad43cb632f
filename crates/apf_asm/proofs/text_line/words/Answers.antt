-- The pieces between spaces, without the empty ones.
use Rattle.std.proofs.Common.{eqb, not, length, rules, tests}
use Rattle.std.proofs.lemmas.Iterator.Consumers.{map_from_collect, YieldsList-from_filter, YieldsList-at}
use Rattle.std.proofs.lemmas.Iterator.Splits.{YieldsList-from_slice_split}
use Rattle.apf_asm.specs.TextLines.{without_comment}
use Rattle.apf_asm.proofs.text_line.words.Goals as goal

pub returns : goal.returns
returns c =
    map_from_collect c.collect.result c.collect.ensures.ran
    (YieldsList-from_filter _ (λ word. not (eqb (length word) 0))
    (YieldsList-at c.filter.ensures.source
    (YieldsList-from_slice_split _ (λ b. eqb b 32) (without_comment c.args.line.now) (cc) c.split.ensures.done c.split.ensures.closure (λ x b q k. search (rules, tests))))
    c.filter.ensures.closure (λ x b q k. search (rules, tests)))
