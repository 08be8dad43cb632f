-- A capture that is read from a source, a record at a time: what its reader still gives of the bytes that are left.
use Rattle.std.specs.Prelude.{◌≡◌, ◌≢◌, ℕ, ◌+◌, ◌-◌, ◌<◌, ◌≤◌, ⊤, Bool, true, false, List, [], ◌∷◌, ◌++◌, length, take, drop, map, Option, None, Some, Result, Ok, Err, IfSome, IfOk, IfErr}
use Rattle.std.specs.Io.KnownBytes.{Consumes, IsAtEnd}
use Rattle.pcap_files.specs.declared.kinds.Kind.{Kind}
use Rattle.pcap_files.specs.declared.kinds.Stamp.{Stamp}
use Rattle.pcap_files.specs.declared.kinds.Placed.{Placed}
use Rattle.pcap_files.specs.declared.kinds.Records.{Records}
use Rattle.pcap_files.specs.declared.stream.Frame.{Frame}
use Rattle.pcap_files.specs.declared.stream.Frame.TheVariants as frames
use Rattle.pcap_files.specs.declared.fault.PcapError.{PcapError}
use Rattle.pcap_files.specs.declared.fault.PcapError.TheVariants.{Read, OutOfMemory}
use Rattle.pcap_files.specs.Capture.{record_at, records_from, capture, frame_of}

-- ---- what a file tells, one record after another

-- a record as it is handed out: its stamp, the offset of its first byte in the file, and its frame
pub record Handed : Type 0 where
  pub stamp : Stamp
  pub at : ℕ
  pub frame : List ℕ

-- records, and then the end or the first fault
pub record Told : Type 0 where
  pub list : List Handed
  pub end : Option PcapError

-- one record first, and then others
abbrev pub first_handed : Handed → Told → Told
first_handed handed later = record { list = handed ∷ later.list; end = later.end }

-- no record, and this end
abbrev pub told_end : Option PcapError → Told
told_end end = record { list = []; end = end }

-- a record of a file
abbrev pub handed_of : List ℕ → Placed → Handed
handed_of bytes placed = record { stamp = placed.stamp; at = placed.at; frame = frame_of bytes placed }

-- what a file tells: the records of its capture, and how that ends
unfoldable pub told : List ℕ → Told
told bytes = record { list = map (handed_of bytes) (capture bytes).list; end = (capture bytes).end }

-- a capture whose file header is refused
abbrev pub refused_file : PcapError → Records
refused_file fault = record { kind = None; list = []; end = Some fault }

-- ---- what a reader still gives

-- a capture that is being read: how it is written, the offset in the file of the byte that comes next, and whether more
-- may come
pub record Reader : Type 0 where
  pub kind : Kind
  pub at : ℕ
  pub live : Bool

-- a record that stands in these bytes, the first of which has this offset in the file
abbrev pub handed_from : ℕ → List ℕ → Placed → Handed
handed_from start left placed = record { stamp = placed.stamp; at = placed.at; frame = take placed.len (drop (placed.at - start + 16) left) }

-- what these bytes tell, the first of which has this offset in the file
abbrev pub told_from : Bool → ℕ → List ℕ → Told
told_from big at left = let found = records_from big 0 at left in record { list = map (handed_from at left) found.0; end = found.1 }

-- what a reader still gives of the bytes that its source has left
unfoldable pub rest_of : Reader → List ℕ → Told
rest_of reader left = told_from reader.kind.big reader.at left

-- ---- bytes that are taken

-- where the bytes of a source are told, this holds of those before and those now
abbrev pub BothTold : Option (List ℕ) → Option (List ℕ) → (List ℕ → List ℕ → Type 0) → Type 0
BothTold None now P = ⊤
BothTold (Some xs) None P = ⊥
BothTold (Some xs) (Some ys) P = P xs ys

-- exactly so many bytes were taken
abbrev pub TakesBytes : ℕ → Option (List ℕ) → Option (List ℕ) → Type 0
TakesBytes n left left_now = (bytes : List ℕ) × Consumes left left_now bytes × (length bytes ≡ n)

-- no more than so many bytes were taken
abbrev pub TakesAtMost : ℕ → Option (List ℕ) → Option (List ℕ) → Type 0
TakesAtMost n left left_now = (bytes : List ℕ) × Consumes left left_now bytes × (length bytes ≤ n)

-- these bytes are a whole record at this offset and no more, with this stamp and this frame
pub record IsRecord (big : Bool) (at : ℕ) (bytes : List ℕ) (stamp : Stamp) (frame : List ℕ) : Type 0 where
  pub is : record_at big at bytes ≡ Ok (record { stamp = stamp; at = at; len = length frame })
  pub size : length bytes ≡ 16 + length frame
  pub behind : drop 16 bytes ≡ frame

-- exactly the bytes of the next record were taken
abbrev pub TakesIt : Reader → Option (List ℕ) → Option (List ℕ) → List ℕ → Stamp → Type 0
TakesIt old left left_now into stamp = (bytes : List ℕ) × Consumes left left_now bytes × IsRecord old.kind.big old.at bytes stamp into

-- so many bytes, or fewer where none is left behind them, were taken from a source
abbrev pub TakesFrame : ℕ → Option (List ℕ) → Option (List ℕ) → List ℕ → Frame → Type 0
TakesFrame len left left_now into frames.Whole = Consumes left left_now into × (length into ≡ len)
TakesFrame len left left_now into frames.Cut = (taken : List ℕ) × Consumes left left_now taken × (length taken < len) × IsAtEnd left_now
TakesFrame len left left_now into frames.NoMemory = (taken : List ℕ) × Consumes left left_now taken × (length taken ≡ len)

-- a record was taken from a source into a list, and is of these bytes
pub record IsTaken (big : Bool) (at : ℕ) (left left_now : Option (List ℕ)) (into : List ℕ) (placed : Placed) : Type 0 where
  pub bytes : List ℕ
  pub consumed : Consumes left left_now bytes
  pub is : IsRecord big at bytes placed.stamp into
  pub len : placed.len ≡ length into
  pub inside : at + 16 + placed.len ≤ 4294967295

-- A whole record was taken; or none is left; or this is wrong with the one that the bytes that were left begin with; or
-- they begin with a whole one that there is no memory for. Where a read failed nothing is said.
pub record TakesRecord (big : Bool) (at : ℕ) (left left_now : Option (List ℕ)) (into : List ℕ) (result : Result (Option Placed) PcapError) : Type 0 where
  pub taken : IfOk result (λ found. IfSome found (IsTaken big at left left_now into))
  pub end : result ≡ Ok None → IfSome left (λ bytes. bytes ≡ []) × IsAtEnd left_now
  pub err : IfErr result (λ fault. fault ≢ Read → fault ≢ OutOfMemory → IfSome left (λ bytes. (0 < length bytes) × (record_at big at bytes ≡ Err fault)))
  pub no_memory : result ≡ Err OutOfMemory → IfSome left (λ bytes. (placed : Placed) × (record_at big at bytes ≡ Ok placed))

-- ---- the calls of a reader

-- The start, where the bytes of the source are told: the reader gives what they tell, and their capture has its kind.
-- Or they are no capture, for this reason. Where a read failed nothing is said.
pub record Starts (left left_now : Option (List ℕ)) (result : Result Reader PcapError) : Type 0 where
  pub ok : IfOk result (λ reader. BothTold left left_now (λ bytes rest. (told bytes ≡ rest_of reader rest) × ((capture bytes).kind ≡ Some reader.kind)))
  pub err : IfErr result (λ fault. fault ≢ Read → IfSome left (λ bytes. capture bytes ≡ refused_file fault))

-- a record was handed out
abbrev pub is_handed : Result (Option Stamp) PcapError → Bool
is_handed (Ok (Some stamp)) = true
is_handed (Ok None) = false
is_handed (Err fault) = false

-- where a record was handed out, this holds of its stamp
abbrev pub IfHanded : Result (Option Stamp) PcapError → (Stamp → Type 0) → Type 0
IfHanded result P = IfOk result (λ found. IfSome found P)

-- The next record, where the bytes of the source are told: what the reader gives of the bytes that were left is this
-- record, and then what it gives of those that are left now; or it is the end, or this fault; or a record that there is
-- no memory for, and others. Where a read failed nothing is said.
pub record Gives (old new : Reader) (left left_now : Option (List ℕ)) (into : List ℕ) (result : Result (Option Stamp) PcapError) : Type 0 where
  pub some : IfHanded result (λ stamp. BothTold left left_now (λ bytes rest. rest_of old bytes ≡ first_handed (record { stamp = stamp; at = old.at; frame = into }) (rest_of new rest)))
  pub end : result ≡ Ok None → IfSome left (λ bytes. (bytes ≡ []) × (rest_of old bytes ≡ told_end None)) × IsAtEnd left_now
  pub err : IfErr result (λ fault. fault ≢ Read → fault ≢ OutOfMemory → IfSome left (λ bytes. rest_of old bytes ≡ told_end (Some fault)))
  pub no_memory : result ≡ Err OutOfMemory → IfSome left (λ bytes. (handed : Handed) × (later : Told) × (rest_of old bytes ≡ first_handed handed later))

-- by the records that are left and how they end
abbrev pub next_answer_by : List Handed → Option PcapError → Result (Option Stamp) PcapError
next_answer_by (handed ∷ list) end = Ok (Some handed.stamp)
next_answer_by [] None = Ok None
next_answer_by [] (Some fault) = Err fault

-- the answer of a call where no read fails and there is memory
abbrev pub next_answer : Told → Result (Option Stamp) PcapError
next_answer told = next_answer_by told.list told.end

-- where the bytes of the source are told, the answer is the one that they have, but for a failed read and want of memory
abbrev pub IsNextAnswer : Reader → Option (List ℕ) → Result (Option Stamp) PcapError → Type 0
IsNextAnswer old left result = result ≢ Err Read → result ≢ Err OutOfMemory → IfSome left (λ bytes. result ≡ next_answer (rest_of old bytes))

-- ---- many calls

-- records first, and then others
abbrev pub after_given : List Handed → Told → Told
after_given given later = record { list = given ++ later.list; end = later.end }

-- how many bytes of a file these records are
abbrev pub given_size : List Handed → ℕ
given_size [] = 0
given_size (handed ∷ given) = 16 + length handed.frame + given_size given

-- The records so far, where the bytes of the source are told: what the reader gave at first is these records, and then
-- what it still gives of the bytes that are left now, which are those behind the bytes of these records.
pub record HasGiven (start now : Reader) (left left_now : Option (List ℕ)) (given : List Handed) : Type 0 where
  pub told : BothTold left left_now (λ bytes rest. rest_of start bytes ≡ after_given given (rest_of now rest))
  pub taken : BothTold left left_now (λ bytes rest. drop (given_size given) bytes ≡ rest)
  pub place : now.at ≡ start.at + given_size given

-- what the reader gives begins with these records
abbrev pub GivesFirst : Reader → Option (List ℕ) → List Handed → Type 0
GivesFirst start left given = IfSome left (λ bytes. (later : Told) × (rest_of start bytes ≡ after_given given later))

-- what the reader gives is these records, and then this end
abbrev pub GivesAll : Reader → Option (List ℕ) → List Handed → Option PcapError → Type 0
GivesAll start left given end = IfSome left (λ bytes. rest_of start bytes ≡ after_given given (told_end end))
