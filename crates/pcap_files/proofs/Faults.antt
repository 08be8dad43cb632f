-- A capture's fault is one of its bytes: nothing fails to be read, and there is no want of memory.
use Rattle.std.proofs.Common.{◌≡◌, ◌≢◌, ℕ, zero, suc, ◌+◌, Bool, true, false, cond, not, eqb, List, [], ◌∷◌, length, drop, Option, Some, None, Result, Ok, Err, refl, sym, ap, subst, ◌∙◌}
use Rattle.std.specs.Prelude.{nat_lt}
use Rattle.pcap_files.specs.declared.kinds.Kind.{Kind}
use Rattle.pcap_files.specs.declared.kinds.Placed.{Placed}
use Rattle.pcap_files.specs.declared.kinds.Records.{Records}
use Rattle.pcap_files.specs.declared.fault.PcapError.{PcapError}
use Rattle.pcap_files.specs.declared.fault.PcapError.TheVariants.{Magic, Version, Link, Cut, TooLong, Length, Read, OutOfMemory}
use Rattle.pcap_files.specs.Capture.{number_at, kind_of, has_version, of_link, of_kind, head_of, record_at, records_from, captured, capture}
use Rattle.apf_base.specs.Limits.{frame_limit}

abbrev IsOfBytes : PcapError → Type 0
IsOfBytes Read = ⊥
IsOfBytes OutOfMemory = ⊥
IsOfBytes _ = Unit {0}

record IsTold (end : Option PcapError) : Type 0 where
  each : (fault : PcapError) → end ≡ Some fault → IsOfBytes fault

told : (fault : PcapError) → IsOfBytes fault → IsTold (Some fault)
told fault is = record { each = λ other e. let same : fault ≡ other = cc in subst IsOfBytes same is }

-- ---- a record

record_told : (a b c d : Bool) (at len : ℕ) (x : Placed) (fault : PcapError)
    → cond a (Err (Cut at)) (cond b (Err (TooLong at len)) (cond c (Err Length) (cond d (Err (Cut at)) (Ok x)))) ≡ Err fault → IsTold (Some fault)
record_told true b c d at len x fault e = let same : Cut at ≡ fault = cc in subst (λ (f : PcapError). IsTold (Some f)) same (told (Cut at) tt)
record_told false true c d at len x fault e = let same : TooLong at len ≡ fault = cc in subst (λ (f : PcapError). IsTold (Some f)) same (told (TooLong at len) tt)
record_told false false true d at len x fault e = let same : Length ≡ fault = cc in subst (λ (f : PcapError). IsTold (Some f)) same (told Length tt)
record_told false false false true at len x fault e = let same : Cut at ≡ fault = cc in subst (λ (f : PcapError). IsTold (Some f)) same (told (Cut at) tt)
record_told false false false false at len x fault e = absurd cc

found_told : (big : Bool) (at byte : ℕ) (bytes : List ℕ) → ((skip : ℕ) → IsTold (records_from big skip (at + 1) bytes).1) → (r : Result Placed PcapError) → record_at big at (byte ∷ bytes) ≡ r
    → IsTold (elim r as (λ _. List Placed × Option PcapError) [ Err fault ↦ ([], Some fault) | Ok placed ↦ (let more = records_from big (15 + placed.len) (at + 1) bytes in (placed ∷ more.0, more.1)) ]).1
found_told big at byte bytes rest (Err fault) e =
    let len = number_at big 4 8 (byte ∷ bytes) in
    record_told (nat_lt (length (byte ∷ bytes)) 16) (nat_lt frame_limit len) (nat_lt 4294967295 (at + 16 + len)) (nat_lt (length (byte ∷ bytes)) (16 + len)) at len _ fault e
found_told big at byte bytes rest (Ok placed) e = rest (15 + placed.len)

records_told : (big : Bool) (skip at : ℕ) (bytes : List ℕ) → IsTold (records_from big skip at bytes).1
records_told big skip at [] = record { each = λ fault e. absurd cc }
records_told big (suc skip) at (byte ∷ bytes) = records_told big skip (at + 1) bytes
records_told big zero at (byte ∷ bytes) = found_told big at byte bytes (λ skip. records_told big skip (at + 1) bytes) (record_at big at (byte ∷ bytes)) refl

-- ---- the file header

abbrev EndOf : Result Kind PcapError → Option PcapError
EndOf (Ok kind) = None
EndOf (Err fault) = Some fault

none_told : IsTold None
none_told = record { each = λ fault e. absurd cc }

link_told : (b : Bool) (kind : Kind) (link : ℕ) → IsTold (EndOf (cond b (Ok kind) (Err (Link link))))
link_told true kind link = none_told
link_told false kind link = told (Link link) tt

tests_told : (short version : Bool) (later : Result Kind PcapError) → IsTold (EndOf later) → IsTold (EndOf (cond short (Err (Cut 0)) (cond (not version) (Err Version) later)))
tests_told true version later is = told (Cut 0) tt
tests_told false false later is = told Version tt
tests_told false true later is = is

kind_told : (o : Option Kind) (bytes : List ℕ) → IsTold (EndOf (of_kind o bytes))
kind_told None bytes = told Magic tt
kind_told (Some kind) bytes =
    tests_told (nat_lt (length bytes) 24) (has_version kind.big bytes) (of_link kind (number_at kind.big 4 20 bytes)) (link_told (eqb (number_at kind.big 4 20 bytes) 1) kind (number_at kind.big 4 20 bytes))

short_told : (short : Bool) (later : Result Kind PcapError) → IsTold (EndOf later) → IsTold (EndOf (cond short (Err (Cut 0)) later))
short_told true later is = told (Cut 0) tt
short_told false later is = is

head_told : (bytes : List ℕ) → IsTold (EndOf (head_of bytes))
head_told bytes = short_told (nat_lt (length bytes) 4) (of_kind (kind_of bytes) bytes) (kind_told (kind_of bytes) bytes)

-- ---- the whole file

captured_told : (r : Result Kind PcapError) (bytes : List ℕ) → IsTold (EndOf r) → IsTold (captured r bytes).end
captured_told (Ok kind) bytes is = records_told kind.big 0 24 (drop 24 bytes)
captured_told (Err fault) bytes is = is

capture_told : (bytes : List ℕ) → IsTold (capture bytes).end
unfolding capture
capture_told bytes = captured_told (head_of bytes) bytes (head_told bytes)

pub no_read : (bytes : List ℕ) (found : Records) → found ≡ capture bytes → found.end ≢ Some Read
no_read bytes found e is = (capture_told bytes).each Read (ap (λ (r : Records). r.end) (sym e) ∙ is)

pub no_memory : (bytes : List ℕ) (found : Records) → found ≡ capture bytes → found.end ≢ Some OutOfMemory
no_memory bytes found e is = (capture_told bytes).each OutOfMemory (ap (λ (r : Records). r.end) (sym e) ∙ is)
