-- Arguments that are added one by one.
use Rattle.std.proofs.Common.{◌≡◌, ◌∙◌, List, [], ◌∷◌, ◌++◌, ap, sym, append-nil, append_assoc}
use Rattle.std.specs.List.{fold}
use Rattle.clap.specs.Words.{App, Rule, with_rule}

-- the command with these arguments in place of its own
abbrev with_rules : App → List Rule → App
with_rules a rules = record a { top = record a.top { rules = rules } }

-- the arguments stand behind those that were there
pub added : (a : App) (rules : List Rule) → fold with_rule a rules ≡ with_rules a (a.top.rules ++ rules)
added a [] = ap (with_rules a) (sym (append-nil a.top.rules))
added a (r ∷ rules) = added (with_rule a r) rules ∙ ap (with_rules a) (append_assoc a.top.rules (r ∷ []) rules)
