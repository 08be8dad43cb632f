use Rattle.std.proofs.Common.{rules, ◌≡◌, ◌<◌, ◌+◌, [], ◌++◌, ℕ, List, length, take, drop, sym, ap, ◌∙◌, arith, length-take, length-drop}
use Rattle.std.proofs.lemmas.Grind.{common_steps}
use Rattle.std.proofs.lemmas.List.{with_items_is, places}
use Rattle.std.specs.Io.KnownBytes.{Keeps, IsAtEnd, prepend_known}
use Rattle.std.proofs.KnownBytes.{prepend_known-nil, prepend_known-read, Keeps-refl}
use Rattle.apf_base.proofs.Reading.{prepend_known-consumed, drop-take_all}
use Rattle.apf_base.proofs.reader_source.ReaderSourceSource.read.Goals.{then-self+in-Ok, else-self}
use Rattle.apf_base.proofs.reader_source.ReaderSourceSource.read.Goals as goal

pub returns-clause-bytes : goal.returns-clause-bytes
returns-clause-bytes g c =
    let inside = c.self.inside in
    let s = c.if-self.self-inside in
    let n = c.copy_from-count.result in
    let held : List ℕ = drop s.at (take s.filled s.buffer.items) in
    let front : List ℕ = take n c.copy_from-count.new.buf in
    let rest : List ℕ = drop (s.at + n) (take s.filled s.buffer.items) in
    let copied : held ≡ front ++ rest = rw (← c.deref.ensures.value) (grind (arith, common_steps, c.copy_from-count.ensures.copied)) in
    let none : n ≡ 0 → held ≡ [] = λ zero. rw (← c.deref.ensures.value) (grind (arith, common_steps, c.copy_from-count.ensures.end zero)) in
    let kept : Keeps c.args.self.now.left (prepend_known held (g.R.Read.remaining s.reader)) = elim c.if-self.branch [
      | then-self+in-Ok w ↦
          let size : length w.read.new.buf ≡ inside.buffer.len = search (rules, places) in
          rw (w.self-inside-is, ← c.self.view_is, with_items_is inside.buffer w.read.new.buf size, drop-take_all inside.buffer.items inside.at inside.filled (omega arith), prepend_known-nil (g.R.Read.remaining inside.reader)) (prepend_known-consumed _ _ _ w.in-Ok.ensures.bytes.0)
      | else-self w ↦ rw (w.self-inside-is, ← c.self.view_is) (Keeps-refl _)
    ] in
    let end : held ≡ [] → IsAtEnd (g.R.Read.remaining s.reader) = elim c.if-self.branch [
      | then-self+in-Ok w ↦
          let size : length w.read.new.buf ≡ inside.buffer.len = search (rules, places) in
          rw (w.self-inside-is, with_items_is inside.buffer w.read.new.buf size) (λ empty. w.in-Ok.ensures.bytes.1 (omega (arith, ap length empty, length-take w.in-Ok.count w.read.new.buf)) (omega arith))
      | else-self w ↦ rw w.self-inside-is (λ empty. absurd (omega (arith, ap length empty, length-take inside.filled inside.buffer.items, length-drop inside.at (take inside.filled inside.buffer.items))))
    ] in
    let read = prepend_known-read _ _ held rest front ((n ≡ 0) × (0 < length c.copy_from-count.new.buf)) kept copied (λ p.
    let empty = none p.0 in
    (sym (ap (λ k. take k c.copy_from-count.new.buf ++ rest) p.0) ∙ sym copied ∙ empty, end empty)) in
    (read.0, λ zero some. read.1 (zero, some))
