use Rattle.std.proofs.Common.{List, sym, ap, subst, ◌∙◌, arith, refl}
use mathlib.Core.List.{IsPrefix}
use Rattle.filter_core.specs.declared.install.Install.{Install}
use Rattle.program_swap.specs.Histories.{history, History}
use Rattle.program_swap.proofs.Keeping.{follows_trans, begins_read, follows_read}
use Rattle.program_swap.proofs.Fitting.{fits_grow}
use Rattle.program_swap.proofs.Rising.{shorter_begins}
use Rattle.program_swap.proofs.lane.Lane.learn.Goals as goal

pub invariant_of-self : goal.invariant_of-self
invariant_of-self c =
    let f = c.in_default.ensures in
    let i = c.self.invariant in
    (follows_trans _ _ _ i.0 f.follows, i.1, i.2, f.entered ∙ i.3, i.4, i.5)

pub invariant_of-self-2 : goal.invariant_of-self-2
invariant_of-self-2 c =
    let t = c.in-Some.ensures in
    let i = c.self.invariant in
    let old = c.self.inside.known in
    let new = c.in-Some.read in
    let b = begins_read (history old.book old.log) (history new.book new.log) _ _ i.0 t.follows t.read in
    (follows_read (history new.book new.log) _ t.read, t.rising, fits_grow old.log new.log c.self.inside.answers.items b.1 i.2, t.entered ∙ i.3, i.4, i.5)

pub returns-clause-ok : goal.returns-clause-ok
returns-clause-ok c =
    let t = c.in-Some.ensures in
    let i = c.self.invariant in
    let old = c.self.inside.known in
    let new = c.in-Some.read in
    let b = begins_read (history old.book old.log) (history new.book new.log) _ _ i.0 t.follows t.read in
    let both = c.learn.new.self.log in
    let m = c.learn.ensures in
    let mine : IsPrefix new.log both = subst (λ (l : List Install). IsPrefix l both) (ap (λ s. s.log) c.again-both.ensures) m.2 in
    let theirs : IsPrefix c.args.t.now.installs both = subst (λ (l : List Install). IsPrefix l both) (ap (λ (s : History). s.installs) c.known-told.ensures) m.3 in
    let last = c.number.ensures in
    let told : IsPrefix c.args.t.now.installs new.log = shorter_begins c.args.t.now.installs new.log both last.0 t.from.0 m.4.1.rising theirs mine last.1 t.from.1 (omega (arith, last.2, t.from.2)) in
    rw (← c.self.view_is) (record {
      view = b.1;
      knows = told;
      read = t.read;
      refused = t.refused;
      board = sym b.0;
      entered = t.entered;
      answers = refl;
      memory = refl;
      spare = refl;
    })
