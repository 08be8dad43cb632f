use Rattle.std.proofs.Common.{arith, ap, ◌∙◌, length, take, drop, List, ℕ, ◌≡◌, ◌≤◌, ◌++◌, length-append, length-take-le}
use Rattle.std.proofs.KnownBytes.{Consumes-trans}
use Rattle.std.proofs.lemmas.List.{take-append-le}
use Rattle.pcap_files.proofs.stream.take_frame.Goals as goal

pub returns-then-count-want-clause-taken : goal.returns-then-count-want-clause-taken
returns-then-count-want-clause-taken g c =
    let so_far = c.loop-rest.invariant.taken in
    let now = c.in_ok-count.ensures in
    let bytes = take c.in_ok-count.count c.fill.new.buf in
    let room : length c.fill.new.buf ≡ c.min-want.result = omega (arith, length-take-le c.min-want.result c.loop-rest.chunk (omega arith)) in
    let few : length bytes ≡ c.in_ok-count.count = length-take-le c.in_ok-count.count c.fill.new.buf c.in_ok-count.ensures.bound in
    (so_far.0 ++ bytes, Consumes-trans _ _ _ _ _ so_far.1 now.taken, omega (arith, length-append so_far.0 bytes, so_far.2), now.end (omega arith))

pub loop-rest-preserved : goal.loop-rest-preserved
loop-rest-preserved g c =
    let before = c.loop-rest.invariant in
    let so_far = before.taken in
    let now = c.in_ok-count.ensures in
    let count = c.in_ok-count.count in
    let bytes = take count c.fill.new.buf in
    let behind = drop c.min-want.result c.loop-rest.chunk in
    let room : length c.fill.new.buf ≡ c.min-want.result = omega (arith, length-take-le c.min-want.result c.loop-rest.chunk (omega arith)) in
    let bound : count ≤ length c.fill.new.buf = c.in_ok-count.ensures.bound in
    let few : length bytes ≡ count = length-take-le count c.fill.new.buf bound in
    let same : take count (c.fill.new.buf ++ behind) ≡ bytes = take-append-le count c.fill.new.buf behind bound in
    record {
      taken = (
        so_far.0 ++ bytes,
        Consumes-trans _ _ _ _ _ so_far.1 now.taken,
        omega (arith, length-append so_far.0 bytes, so_far.2),
        λ is. c.keep-whole.ensures.kept is ∙ ap (λ (l : List ℕ). l ++ take count (c.fill.new.buf ++ behind)) (so_far.3 (c.keep-whole.ensures.before is)) ∙ ap (λ (l : List ℕ). so_far.0 ++ l) same,
      );
      given = omega (arith, c.fill.ensures.most);
      bound = omega (arith, c.keep-whole.ensures.bound, ap (λ (l : List ℕ). length l) same);
      chunk = omega arith;
      faults = omega arith;
      misses = c.in_ok-count.ensures.misses ∙ before.misses;
      files = c.in_ok-count.ensures.files ∙ before.files;
    }

pub returns-in_err-count-clause-most : goal.returns-in_err-count-clause-most
returns-in_err-count-clause-most g c =
    let so_far = c.loop-rest.invariant.taken in
    let now = c.in_err-count.ensures.err in
    let room : length c.fill.new.buf ≡ c.min-want.result = omega (arith, length-take-le c.min-want.result c.loop-rest.chunk (omega arith)) in
    (so_far.0 ++ now.0, Consumes-trans _ _ _ _ _ so_far.1 now.1, omega (arith, length-append so_far.0 now.0, so_far.2, now.2))

pub returns-then-count-want-clause-most : goal.returns-then-count-want-clause-most
returns-then-count-want-clause-most g c =
    let cut = returns-then-count-want-clause-taken g c in
    (cut.0, cut.1, omega (arith, cut.2))
