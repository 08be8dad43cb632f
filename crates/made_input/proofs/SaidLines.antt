-- What a made script says.
use Rattle.std.proofs.Common.{◌≡◌, ℕ, ◌/◌, List, ◌++◌, ap, ◌∙◌}
use Rattle.std.specs.Prelude.{map}
use Rattle.std.specs.List.{flat_map, range_with_len}
use Rattle.std.proofs.lemmas.List.Concat.{flat_map-append}
use Rattle.std.proofs.lemmas.List.Folds.{flat_map-map}
use Rattle.made_input.specs.MadeScripts.{opening, doze_line, ended, made_script}

-- the text, in two parts
pub made_script-is : (n : ℕ) → made_script n ≡ flat_map ended opening ++ flat_map (λ j. ended (doze_line j)) (range_with_len 1 (n / 10))
unfolding made_script
made_script-is n =
    flat_map-append ended opening (map doze_line (range_with_len 1 (n / 10)))
    ∙ ap (λ (t : List ℕ). flat_map ended opening ++ t) (flat_map-map ended doze_line (range_with_len 1 (n / 10)))
