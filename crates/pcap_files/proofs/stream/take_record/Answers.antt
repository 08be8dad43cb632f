use Rattle.std.proofs.Common.{arith, sym, ◌∙◌, length, take, ◌≡◌, ◌≤◌, length-take-le}
use Rattle.std.proofs.lemmas.Result.{err_from_is_err_and}
use Rattle.pcap_files.proofs.Handing.{wrong, taken_whole, taken_cut, taken_without_memory, most_taken}
use Rattle.pcap_files.proofs.stream.take_record.Goals as goal

pub returns-in_err-placed-clause-taken : goal.returns-in_err-placed-clause-taken
returns-in_err-placed-clause-taken g c =
    let e = sym c.promised.ensures ∙ c.in_err-placed.was in
    let p = err_from_is_err_and c.from_residual-in_err-placed.result c.from_residual-in_err-placed.ensures.1 in
    let few : length (take c.in_ok-count.count c.fill.new.buf) ≡ c.in_ok-count.count = length-take-le c.in_ok-count.count c.fill.new.buf c.in_ok-count.ensures.bound in
    let bound : c.in_ok-count.count ≤ length c.fill.new.buf = c.in_ok-count.ensures.bound in
    let room : length c.fill.new.buf ≡ 16 = omega arith in
    rw (p.1, p.2) (wrong c.args.big c.args.at (take c.in_ok-count.count c.fill.new.buf) _ (omega arith) _ _ _ (omega arith) c.in_ok-count.ensures.taken (λ short. c.in_ok-count.ensures.end (omega arith)) e)

pub returns-in-Whole-clause-taken : goal.returns-in-Whole-clause-taken
returns-in-Whole-clause-taken g c =
    let e = sym c.promised.ensures ∙ c.in_ok-placed.was in
    let few : length (take c.in_ok-count.count c.fill.new.buf) ≡ c.in_ok-count.count = length-take-le c.in_ok-count.count c.fill.new.buf c.in_ok-count.ensures.bound in
    let bound : c.in_ok-count.count ≤ length c.fill.new.buf = c.in_ok-count.ensures.bound in
    let room : length c.fill.new.buf ≡ 16 = omega arith in
    let t = rw c.in-Whole.is at c.in_ok-take_frame.ensures.taken in
    taken_whole c.args.big c.args.at (take c.in_ok-count.count c.fill.new.buf) c.take_frame.new.into (omega arith) c.in_ok-placed.placed e _ _ _ c.in_ok-count.ensures.taken t.0 t.1

pub returns-in-Cut-clause-taken : goal.returns-in-Cut-clause-taken
returns-in-Cut-clause-taken g c =
    let e = sym c.promised.ensures ∙ c.in_ok-placed.was in
    let few : length (take c.in_ok-count.count c.fill.new.buf) ≡ c.in_ok-count.count = length-take-le c.in_ok-count.count c.fill.new.buf c.in_ok-count.ensures.bound in
    let bound : c.in_ok-count.count ≤ length c.fill.new.buf = c.in_ok-count.ensures.bound in
    let room : length c.fill.new.buf ≡ 16 = omega arith in
    let t = rw c.in-Cut.is at c.in_ok-take_frame.ensures.taken in
    taken_cut c.args.big c.args.at (take c.in_ok-count.count c.fill.new.buf) c.take_frame.new.into (omega arith) c.in_ok-placed.placed e _ _ _ t.0 c.in_ok-count.ensures.taken t.1 t.2 t.3

pub returns-in-NoMemory-clause-taken : goal.returns-in-NoMemory-clause-taken
returns-in-NoMemory-clause-taken g c =
    let e = sym c.promised.ensures ∙ c.in_ok-placed.was in
    let few : length (take c.in_ok-count.count c.fill.new.buf) ≡ c.in_ok-count.count = length-take-le c.in_ok-count.count c.fill.new.buf c.in_ok-count.ensures.bound in
    let bound : c.in_ok-count.count ≤ length c.fill.new.buf = c.in_ok-count.ensures.bound in
    let room : length c.fill.new.buf ≡ 16 = omega arith in
    let t = rw c.in-NoMemory.is at c.in_ok-take_frame.ensures.taken in
    taken_without_memory c.args.big c.args.at (take c.in_ok-count.count c.fill.new.buf) c.take_frame.new.into (omega arith) c.in_ok-placed.placed e _ _ _ t.0 c.in_ok-count.ensures.taken t.1 t.2

pub returns-in_err-take_frame-clause-most : goal.returns-in_err-take_frame-clause-most
returns-in_err-take_frame-clause-most g c =
    let e = sym c.promised.ensures ∙ c.in_ok-placed.was in
    let head = take c.in_ok-count.count c.fill.new.buf in
    let bound : c.in_ok-count.count ≤ length c.fill.new.buf = c.in_ok-count.ensures.bound in
    let few : length head ≡ c.in_ok-count.count = length-take-le c.in_ok-count.count c.fill.new.buf bound in
    let room : length c.fill.new.buf ≡ 16 = omega arith in
    most_taken c.args.big c.args.at head c.in_ok-placed.placed e (omega arith) _ _ _ c.in_ok-count.ensures.taken c.take_frame.ensures.most

pub returns-in-Whole-clause-most : goal.returns-in-Whole-clause-most
returns-in-Whole-clause-most g c =
    let e = sym c.promised.ensures ∙ c.in_ok-placed.was in
    let head = take c.in_ok-count.count c.fill.new.buf in
    let bound : c.in_ok-count.count ≤ length c.fill.new.buf = c.in_ok-count.ensures.bound in
    let few : length head ≡ c.in_ok-count.count = length-take-le c.in_ok-count.count c.fill.new.buf bound in
    let room : length c.fill.new.buf ≡ 16 = omega arith in
    most_taken c.args.big c.args.at head c.in_ok-placed.placed e (omega arith) _ _ _ c.in_ok-count.ensures.taken c.take_frame.ensures.most

pub returns-in-Cut-clause-most : goal.returns-in-Cut-clause-most
returns-in-Cut-clause-most g c =
    let e = sym c.promised.ensures ∙ c.in_ok-placed.was in
    let head = take c.in_ok-count.count c.fill.new.buf in
    let bound : c.in_ok-count.count ≤ length c.fill.new.buf = c.in_ok-count.ensures.bound in
    let few : length head ≡ c.in_ok-count.count = length-take-le c.in_ok-count.count c.fill.new.buf bound in
    let room : length c.fill.new.buf ≡ 16 = omega arith in
    most_taken c.args.big c.args.at head c.in_ok-placed.placed e (omega arith) _ _ _ c.in_ok-count.ensures.taken c.take_frame.ensures.most

pub returns-in-NoMemory-clause-most : goal.returns-in-NoMemory-clause-most
returns-in-NoMemory-clause-most g c =
    let e = sym c.promised.ensures ∙ c.in_ok-placed.was in
    let head = take c.in_ok-count.count c.fill.new.buf in
    let bound : c.in_ok-count.count ≤ length c.fill.new.buf = c.in_ok-count.ensures.bound in
    let few : length head ≡ c.in_ok-count.count = length-take-le c.in_ok-count.count c.fill.new.buf bound in
    let room : length c.fill.new.buf ≡ 16 = omega arith in
    most_taken c.args.big c.args.at head c.in_ok-placed.placed e (omega arith) _ _ _ c.in_ok-count.ensures.taken c.take_frame.ensures.most
