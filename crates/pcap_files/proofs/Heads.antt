-- The file header.
use Rattle.std.proofs.Common.{◌≡◌, ℕ, ◌≤◌, Bool, true, false, cond, not, eqb, List, length, Option, Some, None, Result, Ok, Err, refl, ap, ltb-false, eqb-true}
use Rattle.std.specs.Prelude.{nat_lt}
use Rattle.pcap_files.specs.declared.kinds.Kind.{Kind}
use Rattle.pcap_files.specs.declared.fault.PcapError.{PcapError}
use Rattle.pcap_files.specs.declared.fault.PcapError.TheVariants.{Version, Link, Cut}
use Rattle.pcap_files.specs.Capture.{number_at, kind_of, has_version, of_link, of_kind, head_of}

-- what an accepted header tells of its bytes
pub record IsAccepted (bytes : List ℕ) (kind : Kind) : Type 0 where
  pub magic : kind_of bytes ≡ Some kind
  pub long : 24 ≤ length bytes
  pub version : has_version kind.big bytes ≡ true
  pub link : number_at kind.big 4 20 bytes ≡ 1

link_by : (b : Bool) (kind other : Kind) (link : ℕ) → cond b (Ok kind) (Err (Link link)) ≡ Ok other → (b ≡ true) × (kind ≡ other)
link_by true kind other link e = (refl, cc)
link_by false kind other link e = absurd cc

kind_by : (short version : Bool) (later : Result Kind PcapError) (kind : Kind)
    → cond short (Err (Cut 0)) (cond (not version) (Err Version) later) ≡ Ok kind → (short ≡ false) × (version ≡ true) × (later ≡ Ok kind)
kind_by true version later kind e = absurd cc
kind_by false false later kind e = absurd cc
kind_by false true later kind e = (refl, refl, e)

head_by : (short : Bool) (later : Result Kind PcapError) (kind : Kind) → cond short (Err (Cut 0)) later ≡ Ok kind → later ≡ Ok kind
head_by true later kind e = absurd cc
head_by false later kind e = e

some_kind : (o : Option Kind) (bytes : List ℕ) (kind : Kind) → of_kind o bytes ≡ Ok kind → (o ≡ Some kind) × (24 ≤ length bytes) × (has_version kind.big bytes ≡ true) × (number_at kind.big 4 20 bytes ≡ 1)
some_kind None bytes kind e = absurd cc
some_kind (Some found) bytes kind e =
    let tests = kind_by (nat_lt (length bytes) 24) (has_version found.big bytes) (of_link found (number_at found.big 4 20 bytes)) kind e in
    let linked = link_by (eqb (number_at found.big 4 20 bytes) 1) found kind (number_at found.big 4 20 bytes) tests.2 in
    let link : number_at found.big 4 20 bytes ≡ 1 = eqb-true _ _ linked.0 in
    (ap Some linked.1, ltb-false _ _ tests.0, rw linked.1 at tests.1, rw linked.1 at link)

pub head-accepted : (bytes : List ℕ) (kind : Kind) → head_of bytes ≡ Ok kind → IsAccepted bytes kind
head-accepted bytes kind e =
    let is = some_kind (kind_of bytes) bytes kind (head_by (nat_lt (length bytes) 4) (of_kind (kind_of bytes) bytes) kind e) in
    record { magic = is.0; long = is.1; version = is.2; link = is.3 }

pub head-long : (bytes : List ℕ) (kind : Kind) → head_of bytes ≡ Ok kind → 24 ≤ length bytes
head-long bytes kind e = (head-accepted bytes kind e).long
