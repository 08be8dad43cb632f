-- The changes below this number were added.
use Rattle.std.proofs.Common.{◌≡◌, ◌-◌, ◌++◌}
use Rattle.std.specs.List.{flat_map, range_with_len}
use Rattle.made_input.specs.MadeScripts.{opening, doze_line, ended}
use Rattle.made_input.proofs.script.made_script.Given as goal

abbrev pub invariant-loop-j : goal.invariant-loop-j
invariant-loop-j l = l.text ≡ flat_map ended opening ++ flat_map (λ j. ended (doze_line j)) (range_with_len 1 (l.j - 1))
