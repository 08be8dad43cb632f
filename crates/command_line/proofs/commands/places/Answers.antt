use Rattle.std.proofs.Common.{◌∙◌, List, ℕ, ap, sym, take}
use Rattle.std.specs.Borrow.{Bor}
use Rattle.std.proofs.lemmas.List.{take-map, take_min}
use Rattle.clap.specs.Walk.{texts}
use Rattle.command_line.specs.Parses.{places}
use Rattle.command_line.proofs.commands.places.Goals as goal

pub returns : goal.returns
returns c =
    ap texts c.split_at.ensures.front ∙ sym (take-map (λ (s : Bor (List ℕ)). s.now) c.min.result _) ∙ ap (λ n. take n places) c.min.ensures ∙ take_min c.args.words places
