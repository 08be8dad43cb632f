-- The text of a listing.
use Rattle.std.specs.Prelude.{◌≡◌, ℕ, List, [], ◌∷◌, ◌++◌, codes}
use Rattle.std.specs.Fmt.{decimal}
use Rattle.std.specs.List.{join_with_byte, flat_map}
use Rattle.apf_asm.specs.TextForms.{Form, Dotted, Byte, words_of, IsAllowed}
use Rattle.apf_disasm.specs.declared.listing.Line.{Line}
use Rattle.apf_disasm.specs.Listing as listing
use Rattle.apf_disasm.specs.Listing.{ListingEntry, entry_of, IsListing}

-- an instruction with its width, or a byte
abbrev pub form_of : ListingEntry → Form
form_of (listing.Op at i) = Dotted i
form_of (listing.Byte at value) = Byte value

abbrev pub place_of : ListingEntry → ℕ
place_of (listing.Op at i) = at
place_of (listing.Byte at value) = at

-- the form of the line may stand in a text
abbrev pub IsReadable : Line → Type 0
IsReadable line = IsAllowed (form_of (entry_of line))

-- the words, one space apart, and the place as a comment
unfoldable pub line_text : ListingEntry → List ℕ
line_text entry = join_with_byte 32 (words_of (form_of entry)) ++ codes " ; at " ++ decimal (place_of entry) ++ 10 ∷ []

-- the lines of all entries
abbrev pub listing_text : List ListingEntry → List ℕ
listing_text entries = flat_map line_text entries

-- new is old and then the text of the code's listing
pub record AppendsListing (code old new : List ℕ) : Type 0 where
  pub entries : List ListingEntry
  pub listed : IsListing code entries
  pub appended : new ≡ old ++ listing_text entries
