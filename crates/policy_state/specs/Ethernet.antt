-- The Ethernet header (IEEE 802.3, sections 3.2.3 to 3.2.6).
use Rattle.std.specs.Prelude.{ℕ, List, [], ◌∷◌, Option}
use Rattle.frame_views.specs.Fields.{field, part}

abbrev pub destination : List ℕ → Option (List ℕ)
destination frame = part frame 0 6

abbrev pub ethertype : List ℕ → Option ℕ
ethertype frame = field frame 12 2

abbrev pub broadcast : List ℕ
broadcast = 255 ∷ 255 ∷ 255 ∷ 255 ∷ 255 ∷ 255 ∷ []
