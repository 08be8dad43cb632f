-- What the records of a capture are, seen as places in the file.
use Rattle.std.specs.Prelude.{◌≡◌, ℕ, ◌+◌, ◌<◌, ⊤, Bool, List, [], ◌∷◌, length, drop, Ok, Err}
use Rattle.pcap_files.specs.declared.kinds.Placed.{Placed}
use Rattle.pcap_files.specs.declared.fault.PcapError.{PcapError}
use Rattle.pcap_files.specs.Capture.{record_at}

-- the records stand one behind another, from an offset on
abbrev pub AreConsecutive : ℕ → List Placed → Type 0
AreConsecutive at [] = ⊤
AreConsecutive at (placed ∷ list) = (placed.at ≡ at) × AreConsecutive (at + (16 + placed.len)) list

-- the offset behind the last of them
abbrev pub behind : ℕ → List Placed → ℕ
behind at [] = at
behind at (placed ∷ list) = behind (at + (16 + placed.len)) list

-- the bytes from the record's offset on begin with that record
abbrev pub StandsIn : Bool → List ℕ → Placed → Type 0
StandsIn big bytes placed = record_at big placed.at (drop placed.at bytes) ≡ Ok placed

-- bytes are left from this offset on, and this is wrong with the record that they begin with
abbrev pub StopsAt : Bool → List ℕ → PcapError → ℕ → Type 0
StopsAt big bytes fault at = (at < length bytes) × (record_at big at (drop at bytes) ≡ Err fault)
