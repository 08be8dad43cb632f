use Rattle.std.proofs.Common.{ℕ, List, ◌-◌, ◌/◌, ◌≡◌, ◌++◌, ap, sym, ◌∙◌, arith}
use Rattle.std.specs.List.{flat_map, range_with_len}
use Rattle.made_input.specs.MadeScripts.{opening, doze_line, ended}
use Rattle.made_input.proofs.Counting.{turn}
use Rattle.made_input.proofs.SaidLines.{made_script-is}
use Rattle.made_input.proofs.script.made_script.Goals as goal

pub loop-j-preserved : goal.loop-j-preserved
loop-j-preserved c =
    c.in_ok-extend.ensures.ok
    ∙ ap (λ (t : List ℕ). t ++ c.as_bytes.result.now) c.loop-j.invariant
    ∙ ap (λ (t : List ℕ). (flat_map ended opening ++ flat_map (λ j. ended (doze_line j)) (range_with_len 1 (c.loop-j.j - 1))) ++ t) (c.as_bytes.ensures.value ∙ c.in_ok-line.ensures)
    ∙ turn (λ j. ended (doze_line j)) (flat_map ended opening) c.loop-j.j (omega arith)

pub returns : goal.returns
returns c =
    let last : c.loop-j.j - 1 ≡ c.args.n / 10 = omega arith in
    c.loop-j.invariant ∙ ap (λ (n : ℕ). flat_map ended opening ++ flat_map (λ j. ended (doze_line j)) (range_with_len 1 n)) last ∙ sym (made_script-is c.args.n)
