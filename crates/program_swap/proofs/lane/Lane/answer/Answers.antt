use Rattle.std.proofs.Common.{◌≤◌, sym, ap, subst, ◌∙◌, arith, ℕ}
use Rattle.program_swap.specs.Order.{LaneState}
use Rattle.program_swap.specs.Histories.{history}
use Rattle.program_swap.proofs.Keeping.{follows_trans, begins_read, follows_read}
use Rattle.program_swap.proofs.Fitting.{fits_next}
use Rattle.program_swap.proofs.lane.Lane.answer.Goals as goal

pub invariant_of-self : goal.invariant_of-self
invariant_of-self g c =
    let f = c.in_default.ensures in
    let i = c.self.invariant in
    (follows_trans _ _ _ i.0 f.follows, i.1, i.2, f.entered ∙ i.3, i.4, i.5)

pub invariant_of-self-2 : goal.invariant_of-self-2
invariant_of-self-2 g c =
    let t = c.in-Some.ensures in
    let i = c.self.invariant in
    let old = c.self.inside.known in
    let new = c.in-Some.turned.known in
    let b = begins_read (history old.book old.log) (history new.book new.log) _ _ i.0 t.follows t.read in
    let fits = fits_next old.log new.log t.by c.self.inside.answers.items c.in-Some.turned.answer b.1 t.rising t.last t.answer.number i.2 in
    let spare : 1 ≤ c.self.inside.spare = subst (λ (n : ℕ). 1 ≤ n) (sym (ap (λ (l : LaneState). l.spare) c.self.view_is)) c.requires.spare in
    let p = c.push_reserved.ensures in (
      follows_read (history new.book new.log) _ t.read,
      t.rising,
      rw p.items fits,
      omega (arith, t.entered, i.3, i.4, p.len),
      omega (arith, i.4, p.len, spare),
      omega (arith, i.5, p.len, p.capacity, spare),
    )

pub returns-clause-ok : goal.returns-clause-ok
returns-clause-ok g c =
    let t = c.in-Some.ensures in
    let i = c.self.invariant in
    let old = c.self.inside.known in
    let new = c.in-Some.turned.known in
    let b = begins_read (history old.book old.log) (history new.book new.log) _ _ i.0 t.follows t.read in
    let spare : 1 ≤ c.self.inside.spare = subst (λ (n : ℕ). 1 ≤ n) (sym (ap (λ (l : LaneState). l.spare) c.self.view_is)) c.requires.spare in
    rw (← c.self.view_is) (record {
      board = sym b.0;
      entered = omega (arith, t.entered, i.3, i.4);
      refused = t.refused;
      view = b.1;
      read = t.read;
      by = t.by;
      last = t.last;
      answered = t.answer;
      kept = c.push_reserved.ensures.items;
      spare = omega (arith, spare);
    })
