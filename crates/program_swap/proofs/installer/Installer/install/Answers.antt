use Rattle.std.proofs.Common.{◌≡◌, ◌+◌, ◌<◌, ◌≤◌, ◌++◌, ◌∷◌, [], List, true, length, refl, sym, ap, subst, ◌∙◌, arith, fold}
use Rattle.filter_core.specs.declared.install.Install.{Install}
use Rattle.program_swap.specs.Histories.{HasLast, RisesByOne, history, History, InstallerState}
use Rattle.program_swap.proofs.Rising.{next_number, rises_next}
use Rattle.program_swap.proofs.installer.Installer.install.Goals as goal

-- the last install of what was published is the history's last
module _ (log shown published : List Install) (next : Install) (same : log ≡ shown) (view : shown ≡ published) (is : (last : Install) → HasLast published last → next.number ≡ last.number + 1) where
  next_is : (last : Install) → HasLast log last → next.number ≡ last.number + 1
  next_is last e = is last (subst (λ (l : List Install). HasLast l last) (same ∙ view) e)

  pub rises : RisesByOne shown → 0 < length log → RisesByOne (log ++ next ∷ [])
  rises h some = rises_next log next (subst RisesByOne (sym same) h) some next_is

  pub number : RisesByOne shown → 0 < length log → length log ≤ next.number
  number h some = let r = subst RisesByOne (sym same) h in omega (arith, next_number r.0 log next r.1 some next_is)

pub add-requires-clause-room : goal.add-requires-clause-room
add-requires-clause-room g c =
    let live : c.self.inside.live ≡ true = ap (λ (d : InstallerState). d.live) c.self.view_is ∙ c.requires.live in
    let counted = c.self.inside.ledger.counted in
    omega (arith, counted, number c.self.inside.ledger.seen.log _ _ c.args.next (c.self.invariant.1 live).0 (ap (λ (d : InstallerState). d.published) c.self.view_is) c.requires.next c.self.invariant.2 (omega (arith, counted)))

pub add-requires-clause-rising : goal.add-requires-clause-rising
add-requires-clause-rising g c =
    let live : c.self.inside.live ≡ true = ap (λ (d : InstallerState). d.live) c.self.view_is ∙ c.requires.live in
    rises c.self.inside.ledger.seen.log _ _ c.args.next (c.self.invariant.1 live).0 (ap (λ (d : InstallerState). d.published) c.self.view_is) c.requires.next c.self.invariant.2 (omega (arith, c.self.inside.ledger.counted))

pub new-operation-requires-clause-rising : goal.new-operation-requires-clause-rising
new-operation-requires-clause-rising g c =
    let live : c.self.inside.live ≡ true = ap (λ (d : InstallerState). d.live) c.self.view_is ∙ c.requires.live in
    let r = rises c.self.inside.ledger.seen.log _ _ c.args.next (c.self.invariant.1 live).0 (ap (λ (d : InstallerState). d.published) c.self.view_is) c.requires.next c.self.invariant.2 (omega (arith, c.self.inside.ledger.counted)) in
    rw (c.again.ensures, c.add.ensures.added c.if-not-add.false) r

pub invariant_of-result : goal.invariant_of-result
invariant_of-result g c =
    let live : c.self.inside.live ≡ true = ap (λ (d : InstallerState). d.live) c.self.view_is ∙ c.requires.live in
    let log = c.self.inside.ledger.seen.log in
    let r = rises log _ _ c.args.next (c.self.invariant.1 live).0 (ap (λ (d : InstallerState). d.published) c.self.view_is) c.requires.next c.self.invariant.2 (omega (arith, c.self.inside.ledger.counted)) in
    let added : c.again-2.result.log ≡ log ++ c.args.next ∷ [] = ap (λ s. s.log) c.again-2.ensures ∙ c.add.ensures.added c.if-not-add.false in
    ((c.args.next, (log, added), refl), subst RisesByOne (sym added) r)

pub invariant_of-self-2 : goal.invariant_of-self-2
invariant_of-self-2 g c =
    let live : c.self.inside.live ≡ true = ap (λ (d : InstallerState). d.live) c.self.view_is ∙ c.requires.live in
    let r = rises c.self.inside.ledger.seen.log _ _ c.args.next (c.self.invariant.1 live).0 (ap (λ (d : InstallerState). d.published) c.self.view_is) c.requires.next c.self.invariant.2 (omega (arith, c.self.inside.ledger.counted)) in
    let op = c.new-operation.result in
    let first = c.append.new.self.desk.shown.value in
    let told = c.in-Ok-publish_in.ensures in
    let pending = c.in-Ok-append.ensures.pending ∙ ap (λ (w : List History). w ++ op ∷ []) (c.self.invariant.1 live).1 in
    let is : c.publish_in.new.writer.desk.shown.value ≡ op = told.0 ∙ ap (λ (w : List History). fold (λ _ n. n) first w) pending in
    let whole : op ≡ history c.add.new.self.seen.book c.add.new.self.seen.log = c.new-operation.ensures ∙ ap (λ s. history s.book s.log) c.again.ensures in
    let all = is ∙ whole in (
      sym (ap (λ (s : History). s.board) all),
      λ _. (sym (ap (λ (s : History). s.installs) all), told.1),
      subst RisesByOne (sym (ap (λ (s : History). s.installs) all ∙ c.add.ensures.added c.if-not-add.false)) r,
    )
