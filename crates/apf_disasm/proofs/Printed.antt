-- What was printed is the listing's text, and it is read back.
use Rattle.std.proofs.Common.{◌≡◌, ℕ, ◌+◌, ◌≤◌, List, [], ◌∷◌, ◌++◌, map, length, drop, Result, Ok, Err, refl, sym, ap, subst, ◌∙◌, arith}
use Rattle.std.specs.Prelude.{OnOk}
use Rattle.std.proofs.lemmas.List.{drop_at}
use Rattle.apf_coding.specs.Words.{AreBytes}
use Rattle.apf_asm.specs.TextLines.{TextReads}
use Rattle.apf_asm.proofs.TextShapes.{text_shape}
use Rattle.apf_disasm.specs.declared.listing.Line.{Line}
use Rattle.apf_disasm.specs.Listing as listing
use Rattle.apf_disasm.specs.Listing.{ListingEntry, entry_of, Lists, IsListing}
use Rattle.apf_disasm.specs.Printing.{listing_text, AppendsListing}
use Rattle.apf_disasm.specs.ReadingBack.{ReadsBack}
use Rattle.apf_disasm.proofs.Entries.{entries_good}
use Rattle.apf_disasm.proofs.Layouts.{items_of, layout_is, accepted}
use Rattle.apf_disasm.proofs.Lines.{entries_read}
use Rattle.apf_disasm.proofs.Lengths.{listing_length}
use Rattle.apf_base.specs.Limits.{program_limit, text_limit}

pub appends : {E : Type 0} (r : Result (Unit {0}) E) (code old new : List ℕ) (lines : List Line) → IsListing code (map entry_of lines)
    → OnOk r (new ≡ old ++ listing_text (map entry_of lines)) → OnOk r (AppendsListing code old new)
appends (Ok done) code old new lines l e = record { entries = map entry_of lines; listed = l; appended = e }
appends (Err x) code old new lines l e = tt

same_end : (old a b : List ℕ) → old ++ a ≡ old ++ b → a ≡ b
same_end old a b e = sym (drop_at old a (length old) refl) ∙ ap (drop (length old)) e ∙ drop_at old b (length old) refl

text_is : (code old new text : List ℕ) (p : AppendsListing code old new) → new ≡ old ++ text → text ≡ listing_text p.entries
text_is code old new text p e = same_end old text (listing_text p.entries) (sym e ∙ p.appended)

few_items : (code : List ℕ) (at : ℕ) (entries : List ListingEntry) → Lists code at entries → length entries + at ≤ length code
few_items code at [] l = let end = l in omega arith
few_items code at (listing.Op place i ∷ rest) l =
    let more = few_items code l.1.0 rest l.1.2 in
    let order = l.1.1.order in
    omega arith
few_items code at (listing.Byte place value ∷ rest) l =
    let more = few_items code (at + 1) rest l.3 in
    omega arith

count_items : (entries : List ListingEntry) → length (items_of entries) ≡ length entries
count_items [] = refl
count_items (e ∷ rest) = let more = count_items rest in omega arith

pub reads_back : (code old new text : List ℕ) → AreBytes code → length code ≤ program_limit → AppendsListing code old new → new ≡ old ++ text → ReadsBack text code
reads_back code old new text fits long p e =
    let good = entries_good code 0 p.entries fits long p.listed in
    let read : TextReads text (items_of p.entries) = subst (λ (t : List ℕ). TextReads t (items_of p.entries)) (sym (text_is code old new text p e)) (entries_read (length code) p.entries long good) in
    let few = few_items code 0 p.entries p.listed in
    let count = count_items p.entries in
    record {
      items = items_of p.entries;
      read = read;
      forms = text_shape text (items_of p.entries) read;
      few = omega arith;
      accepted = accepted code p.entries p.listed long;
      bytes = layout_is code p.entries p.listed;
    }

pub short : (code old new text : List ℕ) → AreBytes code → length code ≤ program_limit → AppendsListing code old new → new ≡ old ++ text → length code ≤ 40000 → length text ≤ text_limit
short code old new text fits long p e small =
    let good = entries_good code 0 p.entries fits long p.listed in
    let bound = listing_length code p.entries long p.listed good in
    let same = ap length (text_is code old new text p e) in
    omega arith

pub on_ok_more : {E : Type 0} (r : Result (Unit {0}) E) (P Q : Type 0) → OnOk r P → (P → Q) → OnOk r Q
on_ok_more (Ok done) P Q p more = more p
on_ok_more (Err x) P Q p more = tt
