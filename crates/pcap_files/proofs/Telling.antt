-- Records that are handed out one after another.
use Rattle.std.proofs.Common.{◌*◌, ◌^◌, ◌<◌, ◌≤◌, ◌≡◌, ℕ, ◌+◌, List, [], ◌∷◌, ◌++◌, length, drop, map, Option, Some, None, refl, sym, ap, ◌∙◌, append_assoc, arith}
use Rattle.std.specs.Prelude.{IfSome}
use Rattle.std.proofs.lemmas.List.{drop-drop}
use Rattle.std.proofs.lemmas.Simd.{map-map}
use Rattle.pcap_files.specs.declared.kinds.Stamp.{Stamp}
use Rattle.pcap_files.specs.declared.kinds.Placed.{Placed}
use Rattle.pcap_files.specs.declared.fault.PcapError.{PcapError}
use Rattle.pcap_files.specs.Capture.{capture, frames}
use Rattle.pcap_files.specs.Stream.{Reader, Handed, first_handed, told_end, handed_of, told, rest_of, BothTold, TakesIt, after_given, given_size, HasGiven, GivesFirst, GivesAll}
use Rattle.pcap_files.proofs.Handing.{seam_at}

-- what is made of each record that a file tells is made of each record of its capture
pub told-map : {X : Type 0} (f : Handed → X) (bytes : List ℕ) → map f (told bytes).list ≡ map (λ (p : Placed). f (handed_of bytes p)) (capture bytes).list
unfolding told
told-map f bytes = map-map f (handed_of bytes) (capture bytes).list

pub told-end : (bytes : List ℕ) → (told bytes).end ≡ (capture bytes).end
unfolding told
told-end bytes = refl

pub told-frames : (bytes : List ℕ) → map (λ (h : Handed). h.frame) (told bytes).list ≡ frames bytes
told-frames bytes = told-map (λ h. h.frame) bytes

size_of-append : (xs ys : List Handed) → given_size (xs ++ ys) ≡ given_size xs + given_size ys
size_of-append [] ys = omega arith
size_of-append (x ∷ xs) ys = omega (arith, size_of-append xs ys)

BothTold-same : (a : Option (List ℕ)) (P : List ℕ → List ℕ → Type 0) → ((bytes : List ℕ) → P bytes bytes) → BothTold a a P
BothTold-same None P h = tt
BothTold-same (Some bytes) P h = h bytes

BothTold-then : (a b c : Option (List ℕ)) (P Q R : List ℕ → List ℕ → Type 0) → ((x y z : List ℕ) → P x y → Q y z → R x z) → BothTold a b P → BothTold b c Q → BothTold a c R
BothTold-then None b c P Q R join p q = tt
BothTold-then (Some x) None c P Q R join p q = absurd p
BothTold-then (Some x) (Some y) None P Q R join p q = absurd q
BothTold-then (Some x) (Some y) (Some z) P Q R join p q = join x y z p q

-- no record so far
pub none_given : (start : Reader) (a : Option (List ℕ)) → HasGiven start start a a []
none_given start a = record {
  told = BothTold-same a (λ bytes rest. rest_of start bytes ≡ after_given [] (rest_of start rest)) (λ bytes. refl);
  taken = BothTold-same a (λ bytes rest. drop 0 bytes ≡ rest) (λ bytes. refl);
  place = omega arith;
}

record_taken : (old : Reader) (b c : Option (List ℕ)) (into : List ℕ) (stamp : Stamp) → TakesIt old b c into stamp → BothTold b c (λ bytes rest. drop (16 + length into) bytes ≡ rest)
record_taken old None c into stamp is = tt
record_taken old (Some bytes) None into stamp is = absurd is.1
record_taken old (Some bytes) (Some rest) into stamp is = seam_at (16 + length into) bytes is.0 rest is.1 is.2.size

-- ONE RECORD MORE
pub one_more_given : (start old new : Reader) (a b c : Option (List ℕ)) (given : List Handed) (stamp : Stamp) (into : List ℕ) → HasGiven start old a b given
    → BothTold b c (λ bytes rest. rest_of old bytes ≡ first_handed (record { stamp = stamp; at = old.at; frame = into }) (rest_of new rest))
    → TakesIt old b c into stamp → new.at ≡ old.at + (16 + length into)
    → HasGiven start new a c (given ++ record { stamp = stamp; at = old.at; frame = into } ∷ [])
one_more_given start old new a b c given stamp into so_far now took place =
    let handed : Handed = record { stamp = stamp; at = old.at; frame = into } in
    let size : given_size (given ++ handed ∷ []) ≡ given_size given + (16 + length into) = omega (arith, size_of-append given (handed ∷ [])) in
    record {
      told = BothTold-then a b c (λ x y. rest_of start x ≡ after_given given (rest_of old y)) (λ y z. rest_of old y ≡ first_handed handed (rest_of new z)) (λ x z. rest_of start x ≡ after_given (given ++ handed ∷ []) (rest_of new z))
          (λ x y z p q. p ∙ ap (after_given given) q ∙ ap (λ l. record { list = l; end = (rest_of new z).end }) (sym (append_assoc given (handed ∷ []) (rest_of new z).list)))
          so_far.told now;
      taken = BothTold-then a b c (λ x y. drop (given_size given) x ≡ y) (λ y z. drop (16 + length into) y ≡ z) (λ x z. drop (given_size (given ++ handed ∷ [])) x ≡ z)
          (λ x y z p q. ap (λ n. drop n x) size ∙ sym (drop-drop (16 + length into) (given_size given) x) ∙ ap (drop (16 + length into)) p ∙ q)
          so_far.taken (record_taken old b c into stamp took);
      place = omega (arith, size, so_far.place);
    }

-- the records so far are the first
pub first_given : (start now : Reader) (a b : Option (List ℕ)) (given : List Handed) → HasGiven start now a b given → GivesFirst start a given
first_given start now None b given so_far = tt
first_given start now (Some x) None given so_far = absurd so_far.told
first_given start now (Some x) (Some y) given so_far = (rest_of now y, so_far.told)

-- with the end they are all
pub all_given : (start now : Reader) (a b : Option (List ℕ)) (given : List Handed) (end : Option PcapError) → HasGiven start now a b given → IfSome b (λ bytes. rest_of now bytes ≡ told_end end) → GivesAll start a given end
all_given start now None b given end so_far is = tt
all_given start now (Some x) None given end so_far is = absurd so_far.told
all_given start now (Some x) (Some y) given end so_far is = so_far.told ∙ ap (after_given given) is

-- a record has at least 16 bytes, so an offset bounds how many there were
pub sixteen_each : (given : List Handed) → 16 * length given ≤ given_size given
sixteen_each [] = omega arith
sixteen_each (handed ∷ given) = omega (arith, sixteen_each given)

pub few_given : (start now : Reader) (a b : Option (List ℕ)) (given : List Handed) → HasGiven start now a b given → now.at < 2 ^ 32 → length given < 2 ^ 28
few_given start now a b given so_far fits = omega (arith, sixteen_each given, so_far.place)
