use Rattle.std.proofs.Common.{◌∙◌, rules, sym, tests}
use Rattle.std.specs.Prelude.{string_bytes}
use Rattle.std.proofs.lemmas.Iterator.{YieldsList-from_slice}
use Rattle.std.proofs.lemmas.Iterator.Search.{all_from_yields_List}
use Rattle.std.proofs.lemmas.List.Folds.{list_all-map}
use Rattle.command_line.specs.Lines.{is_plain}
use Rattle.command_line.proofs.splitting.all_plain.Goals as goal

pub returns : goal.returns
returns c =
    let words = c.args.words.now in
    all_from_yields_List (λ w. is_plain (string_bytes w)) _ _ _ c.all.ensures.ran (YieldsList-from_slice words cc) (λ x b q k. search (rules, tests)) ∙ sym (list_all-map is_plain string_bytes words)
