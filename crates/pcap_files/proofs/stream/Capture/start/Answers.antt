use Rattle.std.proofs.Common.{arith, refl, sym, ◌∙◌, ◌≡◌, ◌≤◌, length, take, length-take-le}
use Rattle.std.proofs.lemmas.Result.{err_from_is_err_and}
use Rattle.pcap_files.proofs.Heads.{head-long}
use Rattle.pcap_files.proofs.Handing.{begun, not_begun}
use Rattle.pcap_files.proofs.stream.Capture.start.Goals as goal

pub returns-in_err-kind-clause-starts : goal.returns-in_err-kind-clause-starts
returns-in_err-kind-clause-starts g c =
    let front = take c.in_ok-count.count c.fill.new.buf in
    let bound : c.in_ok-count.count ≤ length c.fill.new.buf = c.in_ok-count.ensures.bound in
    let few : length front ≡ c.in_ok-count.count = length-take-le c.in_ok-count.count c.fill.new.buf bound in
    let room : length c.fill.new.buf ≡ 24 = omega arith in
    let p = err_from_is_err_and c.from_residual-in_err-kind.result c.from_residual-in_err-kind.ensures.1 in
    rw (p.1, p.2) (not_begun front (omega arith) _ _ _ c.in_ok-count.ensures.taken (λ short. c.in_ok-count.ensures.end (omega arith)) (sym c.head_of.ensures ∙ c.in_err-kind.was))

pub returns-clause-starts : goal.returns-clause-starts
returns-clause-starts g c =
    let front = take c.in_ok-count.count c.fill.new.buf in
    let bound : c.in_ok-count.count ≤ length c.fill.new.buf = c.in_ok-count.ensures.bound in
    let few : length front ≡ c.in_ok-count.count = length-take-le c.in_ok-count.count c.fill.new.buf bound in
    let room : length c.fill.new.buf ≡ 24 = omega arith in
    begun front (omega arith) _ _ _ refl c.in_ok-count.ensures.taken (λ short. c.in_ok-count.ensures.end (omega arith)) (sym c.head_of.ensures ∙ c.in_ok-kind.was)

pub returns-clause-taken : goal.returns-clause-taken
returns-clause-taken g c =
    let front = take c.in_ok-count.count c.fill.new.buf in
    let bound : c.in_ok-count.count ≤ length c.fill.new.buf = c.in_ok-count.ensures.bound in
    let few : length front ≡ c.in_ok-count.count = length-take-le c.in_ok-count.count c.fill.new.buf bound in
    let room : length c.fill.new.buf ≡ 24 = omega arith in
    (front, c.in_ok-count.ensures.taken, omega (arith, head-long front c.in_ok-kind.kind (sym c.head_of.ensures ∙ c.in_ok-kind.was)))
