-- A code has one listing.
use Rattle.std.proofs.Common.{◌≡◌, ℕ, zero, suc, ◌+◌, ◌-◌, ◌<◌, ◌≤◌, List, [], ◌∷◌, length, get_or, Option, Some, None, refl, sym, subst, ◌∙◌, arith, inl, inr}
use Rattle.std.specs.Prelude.{slice_get}
use Rattle.std.proofs.lemmas.Bool.{cases_lt}
use Rattle.std.proofs.lemmas.Option.{slice_get_within, slice_get-get_or, some_pair_parts}
use Rattle.apf_coding.specs.Instruction.{Instruction}
use Rattle.apf_coding.specs.Spelling.{Begins}
use Rattle.apf_coding.specs.Reading.{instruction_at}
use Rattle.apf_coding.specs.Words.{AreBytes}
use Rattle.apf_coding.proofs.Spelling.{instruction_at-begins, begins-instruction_at}
use Rattle.apf_disasm.specs.Listing.{ListingEntry, Op, Byte, Lists, IsListing}

-- ---- at most one

past_end : (code : List ℕ) (at : ℕ) (i : Instruction) (end : ℕ) → at ≡ length code → Begins code at i end → ⊥
past_end code at i end e b = let order = b.order in let within = b.within in omega arith

past_byte : (code : List ℕ) (at value : ℕ) → at ≡ length code → slice_get code at ≡ Some value → ⊥
past_byte code at value e g = let inside = slice_get_within code at value g in omega arith

same_op : (p q : ℕ) (i j : Instruction) (a b : List ListingEntry) → p ≡ q → i ≡ j → a ≡ b → Op p i ∷ a ≡ Op q j ∷ b
same_op p q i j a b e f g = cc

same_byte : (p q v w : ℕ) (a b : List ListingEntry) → p ≡ q → v ≡ w → a ≡ b → Byte p v ∷ a ≡ Byte q w ∷ b
same_byte p q v w a b e f g = cc

some_value : (v w : ℕ) (o : Option ℕ) → o ≡ Some v → o ≡ Some w → v ≡ w
some_value v w o p q = cc

pub one_listing : (code : List ℕ) (at : ℕ) (a b : List ListingEntry) → Lists code at a → Lists code at b → a ≡ b
one_listing code at [] [] l m = refl
one_listing code at [] (Op q j ∷ b) l m = absurd (past_end code at j m.1.0 l m.1.1)
one_listing code at [] (Byte q w ∷ b) l m = absurd (past_byte code at w l m.1)
one_listing code at (Op p i ∷ a) [] l m = absurd (past_end code at i l.1.0 m l.1.1)
one_listing code at (Op p i ∷ a) (Op q j ∷ b) l m =
    let same = some_pair_parts i j l.1.0 m.1.0 (sym (begins-instruction_at code at i l.1.0 l.1.1) ∙ begins-instruction_at code at j m.1.0 m.1.1) in
    same_op p q i j a b (l.0 ∙ sym m.0) same.0 (one_listing code l.1.0 a b l.1.2 (subst (λ (end : ℕ). Lists code end b) (sym same.1) m.1.2))
one_listing code at (Op p i ∷ a) (Byte q w ∷ b) l m = absurd (m.2 i l.1.0 l.1.1)
one_listing code at (Byte p v ∷ a) [] l m = absurd (past_byte code at v m l.1)
one_listing code at (Byte p v ∷ a) (Op q j ∷ b) l m = absurd (l.2 j m.1.0 m.1.1)
one_listing code at (Byte p v ∷ a) (Byte q w ∷ b) l m = same_byte p q v w a b (l.0 ∙ sym m.0) (some_value v w (slice_get code at) l.1 m.1) (one_listing code (at + 1) a b l.3 m.3)

-- ---- at least one

none_begins : (code : List ℕ) (at : ℕ) → instruction_at code at ≡ None → (i : Instruction) (end : ℕ) → Begins code at i end → ⊥
none_begins code at e i end b = let begins = begins-instruction_at code at i end b in absurd cc

turn : (fuel : ℕ) (code : List ℕ) (at : ℕ) (o : Option (Instruction × ℕ)) → AreBytes code → at < length code → instruction_at code at ≡ o
    → ((next : ℕ) → at < next → next ≤ length code → (entries : List ListingEntry) × Lists code next entries) → (entries : List ListingEntry) × Lists code at entries
turn fuel code at (Some x) fits inside e more =
    let b = instruction_at-begins code at x fits e in
    let later = more x.1 b.order b.within in
    (Op at x.0 ∷ later.0, (refl, (x.1, b, later.1)))
turn fuel code at None fits inside e more =
    let later = more (at + 1) (omega arith) (omega arith) in
    (Byte at (get_or code at 0) ∷ later.0, (refl, slice_get-get_or code at 0 inside, none_begins code at e, later.1))

lists_from : (fuel : ℕ) (code : List ℕ) (at : ℕ) → AreBytes code → at ≤ length code → length code - at ≤ fuel → (entries : List ListingEntry) × Lists code at entries
lists_from zero code at fits within left = ([], omega arith)
lists_from (suc fuel) code at fits within left = elim (cases_lt at (length code)) [
  | inl inside ↦ turn fuel code at (instruction_at code at) fits inside refl (λ next later inside. lists_from fuel code next fits inside (omega arith))
  | inr end ↦ ([], omega arith)
]

pub some_listing : (code : List ℕ) → AreBytes code → (entries : List ListingEntry) × IsListing code entries
some_listing code fits = lists_from (length code) code 0 fits (omega arith) (omega arith)
