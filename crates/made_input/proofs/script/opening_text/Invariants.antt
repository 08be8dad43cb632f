-- The lines before this one were added.
use Rattle.std.proofs.Common.{◌≡◌, map, take}
use Rattle.std.specs.List.{concat}
use Rattle.made_input.proofs.script.opening_text.Given as goal

abbrev pub invariant-loop-line : goal.invariant-loop-line
invariant-loop-line l = l.text ≡ concat (map (λ line. line.now) (take l.line-index l.line-items))
