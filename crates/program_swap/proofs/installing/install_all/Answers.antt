use Rattle.std.proofs.Common.{List, ◌≡◌, ◌∷◌, ◌++◌, ◌+◌, take, drop, ap, sym, subst, ◌∙◌, append_assoc}
use Rattle.std.proofs.lemmas.List.{take-append-drop, drop_more}
use Rattle.filter_core.specs.declared.install.Install.{Install as AnInstall}
use Rattle.filter_core.specs.Lanes.{RisesFrom}
use Rattle.program_swap.specs.Histories.{HasLast, InstallerState}
use Rattle.program_swap.proofs.Fitting.{next-rises}
use Rattle.program_swap.proofs.installing.install_all.Goals as goal

pub install-requires-clause-next : goal.install-requires-clause-next
install-requires-clause-next g c κs within last e =
    let nexts = c.args.nexts.now in
    let old = c.args.installer.now.published in
    let i = c.loop-next.next-index in
    let x = c.next-item.result in
    let front : drop i nexts ≡ x ∷ drop (i + 1) nexts = drop_more nexts i x c.loop-next-test.true ∙ ap (λ (y : AnInstall). y ∷ drop (i + 1) nexts) (sym c.next-item.is) in
    let split : nexts ≡ take i nexts ++ x ∷ drop (i + 1) nexts = sym (take-append-drop i nexts) ∙ ap (λ (is : List AnInstall). take i nexts ++ is) front in
    let whole : old ++ nexts ≡ (old ++ take i nexts) ++ x ∷ drop (i + 1) nexts = ap (λ (is : List AnInstall). old ++ is) split ∙ sym (append_assoc old (take i nexts) (x ∷ drop (i + 1) nexts)) in
    let published : c.loop-next.installer.published ≡ old ++ take i nexts = ap (λ (s : InstallerState). s.published) c.loop-next.invariant.installed.published in
    let rises = c.requires.numbers in
    ap (λ (y : AnInstall). y.number) c.in_ok-copy.ensures ∙ next-rises rises.0 (old ++ take i nexts) (drop (i + 1) nexts) last x (subst (RisesFrom rises.0) whole rises.1) (subst (λ (is : List AnInstall). HasLast is last) published e)
