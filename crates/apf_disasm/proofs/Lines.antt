-- The text of a listing is read line by line as its items.
use Rattle.std.proofs.Common.{◌≡◌, ℕ, ◌^◌, ◌<◌, ◌≤◌, true, List, [], ◌∷◌, ◌++◌, Some, refl, sym, ap, subst, ◌∙◌, append_assoc, arith}
use Rattle.std.specs.Prelude.{codes}
use Rattle.std.specs.Fmt.{decimal}
use Rattle.std.specs.List.{AllByRecursion, join_with_byte, list_all}
use Rattle.std.proofs.lemmas.Bool.{and_from}
use Rattle.std.proofs.lemmas.List.Folds.{list_all-append}
use Rattle.apf_asm.specs.TextForms.{words_of, item_of}
use Rattle.plain_text.specs.Lines.{lines_of}
use Rattle.apf_asm.specs.TextLines.{is_printable, AreRead}
use Rattle.apf_asm.proofs.TextCutting.{commented, commented_printable, form_plain, form_read, lines_of-line, digits_printable}
use Rattle.apf_disasm.specs.Listing.{ListingEntry}
use Rattle.apf_disasm.specs.Printing.{form_of, place_of, line_text, listing_text}
use Rattle.apf_disasm.proofs.Entries.{IsGood}
use Rattle.apf_disasm.proofs.Layouts.{items_of}
use Rattle.apf_base.specs.Limits.{program_limit}

-- the comment of a line
abbrev pub place_comment : ListingEntry → List ℕ
place_comment e = codes " at " ++ decimal (place_of e)

abbrev pub line_of : ListingEntry → List ℕ
line_of e = commented (words_of (form_of e)) (place_comment e)

parted : (words digits rest : List ℕ) → (words ++ (32 ∷ 59 ∷ 32 ∷ 97 ∷ 116 ∷ 32 ∷ []) ++ digits ++ 10 ∷ []) ++ rest ≡ (words ++ 32 ∷ 59 ∷ 32 ∷ 97 ∷ 116 ∷ 32 ∷ digits) ++ 10 ∷ rest
parted words digits rest = simp append_assoc

pub line_text_is : (e : ListingEntry) (rest : List ℕ) → line_text e ++ rest ≡ line_of e ++ 10 ∷ rest
unfolding line_text
line_text_is e rest = parted (join_with_byte 32 (words_of (form_of e))) (decimal (place_of e)) rest

comment_printable : (e : ListingEntry) → place_of e < 2 ^ 32 → list_all is_printable (place_comment e) ≡ true
comment_printable e small = list_all-append is_printable (codes " at ") (decimal (place_of e)) ∙ and_from _ _ refl (digits_printable (place_of e) small)

pub entries_read : (size : ℕ) (entries : List ListingEntry) → size ≤ program_limit → AllByRecursion (IsGood size) entries → AreRead (lines_of (listing_text entries)) (items_of entries)
entries_read size [] long good = refl
entries_read size (e ∷ rest) long good =
    let place = good.0.place in
    let small : place_of e < 2 ^ 32 = omega arith in
    let comment = comment_printable e small in
    let lines : lines_of (listing_text (e ∷ rest)) ≡ line_of e ∷ lines_of (listing_text rest) =
    ap lines_of (line_text_is e (listing_text rest)) ∙ lines_of-line (line_of e) (listing_text rest) (commented_printable (words_of (form_of e)) (place_comment e) (form_plain (form_of e) good.0.allowed) comment) in
    let read : AreRead (line_of e ∷ lines_of (listing_text rest)) (items_of (e ∷ rest)) =
    (Some (item_of (form_of e)), items_of rest, form_read (form_of e) (place_comment e) good.0.allowed comment, entries_read size rest long good.1, refl) in
    subst (λ (ls : List (List ℕ)). AreRead ls (items_of (e ∷ rest))) (sym lines) read
