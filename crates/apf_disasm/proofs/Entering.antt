-- A line more, and what the listing is so far.
use Rattle.std.proofs.Common.{◌≡◌, ℕ, ◌+◌, ◌<◌, List, [], ◌∷◌, ◌++◌, map, length, get_or, refl, sym, ap, subst, ◌∙◌, append_assoc}
use Rattle.std.proofs.lemmas.List.{map-append, append-nil}
use Rattle.std.proofs.lemmas.Option.{slice_get-get_or}
use Rattle.apf_coding.specs.Instruction.{Instruction}
use Rattle.apf_coding.specs.Spelling.{Begins}
use Rattle.apf_disasm.specs.declared.listing.Line.{Line}
use Rattle.apf_disasm.specs.declared.listing.Line.TheVariants as lines
use Rattle.apf_disasm.specs.Listing.{ListingEntry, Byte, entry_of, Lists, IsListing}

-- the rest of a listing, behind the lines so far
abbrev pub GoesOn : List ℕ → ℕ → List Line → Type 0
GoesOn code at before = (rest : List ListingEntry) → Lists code at rest → IsListing code (map entry_of before ++ rest)

behind : (before : List Line) (line : Line) (rest : List ListingEntry) → map entry_of (before ++ line ∷ []) ++ rest ≡ map entry_of before ++ entry_of line ∷ rest
behind before line rest = ap (λ (front : List ListingEntry). front ++ rest) (map-append entry_of before (line ∷ [])) ∙ append_assoc (map entry_of before) (entry_of line ∷ []) rest

pub byte_more : (code : List ℕ) (at : ℕ) (before new : List Line) → GoesOn code at before → at < length code → ((i : Instruction) (end : ℕ) → Begins code at i end → ⊥)
    → new ≡ before ++ lines.Byte at (get_or code at 0) ∷ [] → GoesOn code (at + 1) new
byte_more code at before new so_far inside none added rest more =
    let value : ℕ = get_or code at 0 in
    let whole = so_far (Byte at value ∷ rest) (refl, slice_get-get_or code at 0 inside, none, more) in
    subst (IsListing code) (sym (behind before (lines.Byte at value) rest) ∙ ap (λ (front : List Line). map entry_of front ++ rest) (sym added)) whole

pub listed : (code : List ℕ) (at : ℕ) (before : List Line) → GoesOn code at before → at ≡ length code → IsListing code (map entry_of before)
listed code at before so_far end = subst (IsListing code) (append-nil (map entry_of before)) (so_far [] end)
