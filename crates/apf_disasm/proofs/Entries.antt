-- What each entry of a listing is.
use Rattle.std.proofs.Common.{◌≡◌, ℕ, ◌+◌, ◌-◌, ◌<◌, ◌≤◌, Bool, true, false, cond, List, [], ◌∷◌, ◌++◌, map, length, drop, refl, ap, subst, arith}
use Rattle.std.specs.Prelude.{slice_range, All}
use Rattle.std.specs.List.{AllByRecursion}
use Rattle.std.proofs.lemmas.List.{length-append, length-take, length-drop}
use Rattle.std.proofs.lemmas.List.Elements.{All-from_recursion}
use Rattle.std.proofs.lemmas.Option.{slice_get_within, get_or_from_slice_get}
use Rattle.apf_coding.specs.Words.{big_endian, AreBytes}
use Rattle.apf_coding.specs.Instruction.{Instruction, is_counted}
use Rattle.apf_coding.specs.Spelling.{Begins, IsWellFormed, spelling, first_byte, second_of, counted_of}
use Rattle.apf_coding.proofs.Numbers.{AreBytes-take, AreBytes-drop, AreBytes-tail}
use Rattle.apf_asm.specs.TextForms.{Dotted, IsAllowed}
use Rattle.apf_disasm.specs.declared.listing.Line.{Line}
use Rattle.apf_disasm.specs.Listing as listing
use Rattle.apf_disasm.specs.Listing.{ListingEntry, entry_of, Lists, IsListing}
use Rattle.apf_disasm.specs.Printing.{form_of, place_of, IsReadable}
use Rattle.apf_base.specs.Limits.{program_limit}

-- ---- the bytes of an instruction in a code

AreBytes-behind : (xs ys : List ℕ) → AreBytes (xs ++ ys) → AreBytes ys
AreBytes-behind [] ys h = h
AreBytes-behind (x ∷ xs) ys h = AreBytes-behind xs ys (AreBytes-tail x (xs ++ ys) h)

counted_fit : (b : Bool) (w : ℕ) (bytes : List ℕ) → (b ≡ false → bytes ≡ []) → AreBytes (cond b (big_endian w (length bytes) ++ bytes) []) → AreBytes bytes
counted_fit true w bytes none h = AreBytes-behind (big_endian w (length bytes)) bytes h
counted_fit false w bytes none h = rw (none refl) (λ k. omega arith)

counted_long : (b : Bool) (w : ℕ) (bytes : List ℕ) → (b ≡ false → bytes ≡ []) → length bytes ≤ length (cond b (big_endian w (length bytes) ++ bytes) [])
counted_long true w bytes none = omega (arith, length-append (big_endian w (length bytes)) bytes)
counted_long false w bytes none = rw (none refl) (omega arith)

pub begun_allowed : (code : List ℕ) (at : ℕ) (i : Instruction) (end : ℕ) → AreBytes code → length code ≤ program_limit → Begins code at i end → IsAllowed (Dotted i)
begun_allowed code at i end fits long b =
    let good : IsWellFormed i = b.spells.well_formed in
    let spelled : slice_range code at end ≡ spelling i = b.spells.spelled in
    let part : AreBytes (spelling i) = subst AreBytes spelled (AreBytes-take (end - at) (drop at code) (AreBytes-drop at code fits)) in
    let tail : AreBytes (counted_of i) = AreBytes-behind (first_byte i ∷ big_endian i.width i.imm ++ second_of i) (counted_of i) part in
    let size : length (spelling i) ≤ length code = omega (arith, ap length spelled, length-take (end - at) (drop at code), length-drop at code) in
    let inner = counted_long (is_counted i.op) i.width i.bytes good.no_bytes in
    let outer = length-append (first_byte i ∷ big_endian i.width i.imm ++ second_of i) (counted_of i) in
    (good, counted_fit (is_counted i.op) i.width i.bytes good.no_bytes tail, omega arith)

-- ---- entries

-- the form of an entry is allowed, and its place is in the code
pub record IsGood (size : ℕ) (e : ListingEntry) : Type 0 where
  pub allowed : IsAllowed (form_of e)
  pub place : place_of e < size

pub entries_good : (code : List ℕ) (at : ℕ) (entries : List ListingEntry) → AreBytes code → length code ≤ program_limit → Lists code at entries → AllByRecursion (IsGood (length code)) entries
entries_good code at [] fits long l = tt
entries_good code at (listing.Op place i ∷ rest) fits long l =
    let b = l.1.1 in
    let order = b.order in
    let within = b.within in
    let here = l.0 in
    (record { allowed = begun_allowed code at i l.1.0 fits long b; place = omega arith }, entries_good code l.1.0 rest fits long l.1.2)
entries_good code at (listing.Byte place value ∷ rest) fits long l =
    let inside = slice_get_within code at value l.1 in
    let here = l.0 in
    let byte : value < 256 = subst (λ (v : ℕ). v < 256) (get_or_from_slice_get code at value 0 l.1) (fits at) in
    (record { allowed = byte; place = omega arith }, entries_good code (at + 1) rest fits long l.3)

each_readable : (size : ℕ) (ls : List Line) → AllByRecursion (IsGood size) (map entry_of ls) → AllByRecursion IsReadable ls
each_readable size [] good = tt
each_readable size (line ∷ rest) good = (good.0.allowed, each_readable size rest good.1)

pub lines_readable : (code : List ℕ) (ls : List Line) → AreBytes code → length code ≤ program_limit → IsListing code (map entry_of ls) → All IsReadable ls
lines_readable code ls fits long l = All-from_recursion IsReadable ls (each_readable (length code) ls (entries_good code 0 (map entry_of ls) fits long l))
