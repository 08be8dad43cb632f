-- The items of a listing are laid out as the code.
use Rattle.std.proofs.Common.{◌≡◌, ℕ, suc, ◌+◌, ◌≤◌, false, ltb, List, [], ◌∷◌, ◌++◌, map, length, drop, None, refl, sym, ap, ◌∙◌, arith}
use Rattle.std.specs.List.{flat_map}
use Rattle.std.proofs.lemmas.Bool.{le-ltb}
use Rattle.std.proofs.lemmas.List.{drop_all}
use Rattle.std.proofs.lemmas.List.Folds.{drop_split}
use Rattle.std.proofs.lemmas.Option.{slice_get_within, get_or_from_slice_get}
use Rattle.std.proofs.Math.Seq.{drop-cons}
use Rattle.apf_coding.specs.Spelling.{spelling}
use Rattle.apf_asm.specs.declared.item.Item.{Item}
use Rattle.apf_asm.specs.Layout.{code, item_widths, layout}
use Rattle.apf_asm.specs.Refusals.{refused_from, answer}
use Rattle.apf_asm.specs.TextForms.{item_of}
use Rattle.apf_disasm.specs.Listing as listing
use Rattle.apf_disasm.specs.Listing.{ListingEntry, Lists, IsListing}
use Rattle.apf_disasm.specs.Printing.{form_of}
use Rattle.apf_base.specs.Limits.{program_limit}

abbrev pub items_of : List ListingEntry → List Item
items_of entries = map (λ e. item_of (form_of e)) entries

-- the bytes of an entry
abbrev pub bytes_of : ListingEntry → List ℕ
bytes_of (listing.Op at i) = spelling i
bytes_of (listing.Byte at value) = value ∷ []

pub laid_out : (entries : List ListingEntry) → code (items_of entries) (item_widths (items_of entries)) ≡ flat_map bytes_of entries
unfolding code item_widths
laid_out [] = refl
laid_out (listing.Op at i ∷ rest) = ap (λ (t : List ℕ). spelling i ++ t) (laid_out rest)
laid_out (listing.Byte at value ∷ rest) = ap (λ (t : List ℕ). value ∷ t) (laid_out rest)

pub listed_bytes : (source : List ℕ) (at : ℕ) (entries : List ListingEntry) → Lists source at entries → flat_map bytes_of entries ≡ drop at source
listed_bytes source at [] l = sym (drop_all at source (let end = l in omega arith))
listed_bytes source at (listing.Op place i ∷ rest) l =
    let b = l.1.1 in
    let order = b.order in
    let split = drop_split source at l.1.0 (omega arith) in
    ap (λ (t : List ℕ). spelling i ++ t) (listed_bytes source l.1.0 rest l.1.2) ∙ ap (λ (t : List ℕ). t ++ drop l.1.0 source) (sym b.spells.spelled) ∙ sym split
listed_bytes source at (listing.Byte place value ∷ rest) l =
    let inside = slice_get_within source at value l.1 in
    let value_is = get_or_from_slice_get source at value 0 l.1 in
    let next : at + 1 ≡ suc at = omega arith in
    ap (λ (t : List ℕ). value ∷ t) (listed_bytes source (at + 1) rest l.3) ∙ ap (λ (n : ℕ). value ∷ drop n source) next ∙ ap (λ (v : ℕ). v ∷ drop (suc at) source) (sym value_is) ∙ sym (drop-cons source at 0 inside)

none_refused : (number : ℕ) (before : List Item) (entries : List ListingEntry) → refused_from number before (items_of entries) ≡ None
unfolding refused_from
none_refused number before [] = refl
none_refused number before (listing.Op at i ∷ rest) = none_refused (number + 1) (before ++ item_of (form_of (listing.Op at i)) ∷ []) rest
none_refused number before (listing.Byte at value ∷ rest) = none_refused (number + 1) (before ++ item_of (form_of (listing.Byte at value)) ∷ []) rest

pub layout_is : (source : List ℕ) (entries : List ListingEntry) → IsListing source entries → (layout (items_of entries)).bytes ≡ source
layout_is source entries l = laid_out entries ∙ listed_bytes source 0 entries l

pub accepted : (source : List ℕ) (entries : List ListingEntry) → IsListing source entries → length source ≤ program_limit → answer (items_of entries) ≡ None
accepted source entries l long =
    let size : ltb program_limit (length (layout (items_of entries)).bytes) ≡ false = ap (λ (t : List ℕ). ltb program_limit (length t)) (layout_is source entries l) ∙ le-ltb program_limit (length source) long in
    rw (none_refused 0 [] entries, size) refl
