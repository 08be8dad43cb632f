-- A capture that is open: what it tells, what was taken of it, and how it goes by a plan.
use Rattle.std.proofs.Common.{◌≡◌, ◌+◌, ◌≤◌, ℕ, List, [], ◌∷◌, ◌++◌, length, map, take, drop, All, Option, None, Some, IfSome, Result, Err, refl, ap, sym, subst, ◌∙◌, append_assoc, append-nil, arith}
use Rattle.std.proofs.lemmas.List.Elements.{All-nil, All-cons, All-append}
use Rattle.hex.specs.Hex.{IsBytes}
use Rattle.apf_base.specs.Causes.{Rose}
use Rattle.pcap_files.specs.Capture.{capture}
use Rattle.apf_coding.proofs.Numbers.{AreBytes-drop, AreBytes-take}
use Rattle.pcap_files.specs.Stream.{Told, Handed, Reader, BothTold, TakesBytes, told, handed_of, rest_of, first_handed, told_end, after_given, refused_file}
use Rattle.pcap_files.specs.declared.kinds.Placed.{Placed}
use Rattle.pcap_files.specs.declared.kinds.Stamp.{Stamp}
use Rattle.pcap_files.specs.declared.fault.PcapError.{PcapError}
use Rattle.command_plan.specs.declared.fault.Input.{Input}
use Rattle.command_plan.specs.declared.fault.Refusal.TheVariants as refusals
use Rattle.command_plan.specs.declared.fault.Fault.{Fault}
use Rattle.command_plan.specs.declared.fault.Fault.TheVariants.{Usage, Refused, OutOfMemory, Read, Write, Open, Board}
use Rattle.command_plan.specs.Amounts.{IsBehindHead}
use Rattle.command_plan.specs.Records.{HasOpened, OpeningFails, HandsOut}
use Rattle.command_plan.specs.Plan.{Plan, ◌>>=◌, opens, MayTell}
use Rattle.std.proofs.KnownBytes.{Keeps-refl}
use Rattle.command_plan.specs.Follows.{Stage, Shelving, Sinking, Later, Idle, Follows, stage, stage_beside}
use Rattle.command_plan.specs.Follows as f

-- ---- opening

module _ {A : Type 0} (input : Input) (path : List ℕ) (next : Told → Plan A) where
  -- a capture was opened, and the call went on with what it tells
  pub opened_then : (found : Told) (reader : Reader) (a c b : Stage) (r : Result A Fault) → Idle a c → HasOpened (a.shelf.file path) c.shelf.left reader
      → MayTell (a.shelf.file path) found → Follows (next found) c b r → Follows (opens input path >>= next) a b r
  unfolding Follows ◌>>=◌
  opened_then found reader a c b r idle opened tells more = f.Opens.opened found c tells idle opened.behind more

  -- a file whose header is refused tells nothing else
  refused_tells : (fault : PcapError) (bytes : Option (List ℕ)) → IfSome bytes (λ all. capture all ≡ refused_file fault) → MayTell bytes (told_end (Some fault))
  unfolding told
  refused_tells fault None is = record { are = All-nil (λ handed. IsBytes handed.frame); same = tt }
  refused_tells fault (Some all) is = record { are = All-nil (λ handed. IsBytes handed.frame); same = rw is refl }

  refused_behind : (fault : PcapError) (bytes left : Option (List ℕ)) → IfSome bytes (λ all. capture all ≡ refused_file fault) → IsBehindHead bytes left
  refused_behind fault None left is = tt
  refused_behind fault (Some all) left is = rw is tt

  -- it was not opened, or refused by its header
  pub opened_fails : (fault : Fault) (a b : Stage) (r : Result A Fault) → r ≡ Err fault → Idle a b → OpeningFails input (a.shelf.file path) fault
      → ((which : Input) → fault ≡ Read which → Rose a.shelf.faults b.shelf.faults) → ((which : Input) → fault ≡ Open which → Rose a.shelf.misses b.shelf.misses)
      → ((refusal : PcapError) → r ≡ Err (Refused (refusals.BadCapture refusal)) → Follows (next (told_end (Some refusal))) b b r)
      → Follows (opens input path >>= next) a b r
  unfolding Follows ◌>>=◌
  opened_fails (Read which) a b r is idle how unread unopened go =
      f.Opens.unread (record { is = is ∙ ap (λ (i : Input). Err (Read i)) how; idle = idle }) (unread which refl)
  opened_fails (Open which) a b r is idle how unread unopened go =
      f.Opens.unopened (record { is = is ∙ ap (λ (i : Input). Err (Open i)) how; idle = idle }) (unopened which refl)
  opened_fails (Refused (refusals.BadCapture fault)) a b r is idle how unread unopened go =
      f.Opens.opened (told_end (Some fault)) b (refused_tells fault (a.shelf.file path) how) idle (refused_behind fault (a.shelf.file path) b.shelf.left how) (go fault is)
  opened_fails (Refused (refusals.BadScript line kind)) a b r is idle how unread unopened go = absurd how
  opened_fails (Refused (refusals.BadText line kind)) a b r is idle how unread unopened go = absurd how
  opened_fails (Refused (refusals.Twice item label)) a b r is idle how unread unopened go = absurd how
  opened_fails (Refused (refusals.Unknown item label)) a b r is idle how unread unopened go = absurd how
  opened_fails (Refused (refusals.Backward item label)) a b r is idle how unread unopened go = absurd how
  opened_fails (Refused (refusals.TooLong which)) a b r is idle how unread unopened go = absurd how
  opened_fails (Refused refusals.CodeTooLong) a b r is idle how unread unopened go = absurd how
  opened_fails (Refused (refusals.TooLarge need limit)) a b r is idle how unread unopened go = absurd how
  opened_fails OutOfMemory a b r is idle how unread unopened go = absurd how
  opened_fails Usage a b r is idle how unread unopened go = absurd how
  opened_fails Write a b r is idle how unread unopened go = absurd how
  opened_fails Board a b r is idle how unread unopened go = absurd how

-- ---- the records so far

-- What the file tells is these records, of frames of bytes, and then what the reader still gives.
pub record GivenSo (bytes : Option (List ℕ)) (now : Reader) (left : Option (List ℕ)) (given : List Handed) : Type 0 where
  pub telling : BothTold bytes left (λ all rest. told all ≡ after_given given (rest_of now rest))
  pub are : All (λ handed. IsBytes handed.frame) given

pub given_none : (bytes left : Option (List ℕ)) (reader : Reader) → HasOpened bytes left reader → GivenSo bytes reader left []
given_none bytes left reader opened = record { telling = opened.telling; are = All-nil (λ handed. IsBytes handed.frame) }

-- of a record all bytes were taken, and no more
pub taken_bytes : (old new : Reader) (left now : Option (List ℕ)) (frame : List ℕ) (stamp : Stamp) → HandsOut old new left now frame stamp → TakesBytes (16 + length frame) left now
taken_bytes old new left now frame stamp hands = (hands.taken.0, hands.taken.1, hands.taken.2.size)

-- one record more, where the file is told
more_told : (bytes left later : Option (List ℕ)) (now new : Reader) (given : List Handed) (handed : Handed) → BothTold bytes left (λ all rest. told all ≡ after_given given (rest_of now rest))
    → BothTold left later (λ rest behind. rest_of now rest ≡ first_handed handed (rest_of new behind))
    → BothTold bytes later (λ all behind. told all ≡ after_given (given ++ handed ∷ []) (rest_of new behind))
more_told None left later now new given handed so more = tt
more_told (Some all) None later now new given handed so more = absurd so
more_told (Some all) (Some rest) None now new given handed so more = absurd more
more_told (Some all) (Some rest) (Some behind) now new given handed so more =
    so ∙ ap (after_given given) more ∙ ap (λ (l : List Handed). record { list = l; end = (rest_of new behind).end }) (sym (append_assoc given (handed ∷ []) (rest_of new behind).list))

pub given_more : (bytes left later : Option (List ℕ)) (now new : Reader) (given : List Handed) (frame : List ℕ) (stamp : Stamp) → GivenSo bytes now left given
    → HandsOut now new left later frame stamp → IsBytes frame → GivenSo bytes new later (given ++ record { stamp = stamp; at = now.at; frame = frame } ∷ [])
given_more bytes left later now new given frame stamp so hands are =
    let handed : Handed = record { stamp = stamp; at = now.at; frame = frame } in
    record {
      telling = more_told bytes left later now new given handed so.telling hands.telling;
      are = All-append (λ h. IsBytes h.frame) given (handed ∷ []) so.are (All-cons (λ h. IsBytes h.frame) handed [] are (All-nil (λ h. IsBytes h.frame)));
    }

-- with the end they are all that it tells
pub tells_end : (bytes left : Option (List ℕ)) (now : Reader) (given : List Handed) (end : Option PcapError) → GivenSo bytes now left given
    → IfSome left (λ rest. rest_of now rest ≡ told_end end) → MayTell bytes (record { list = given; end = end })
tells_end None left now given end so at_end = record { are = so.are; same = tt }
tells_end (Some all) None now given end so at_end = absurd so.telling
tells_end (Some all) (Some rest) now given end so at_end = record {
  are = so.are;
  same = sym (so.telling ∙ ap (after_given given) at_end ∙ ap (λ (l : List Handed). record { list = l; end = end }) (append-nil given));
}

-- ---- frames of bytes

bytes_within : (start n : ℕ) (bytes : List ℕ) → IsBytes bytes → IsBytes (take n (drop start bytes))
bytes_within start n bytes h = AreBytes-take n (drop start bytes) (AreBytes-drop start bytes h)

frames_are : (bytes : List ℕ) (list : List Placed) → IsBytes bytes → All (λ (handed : Handed). IsBytes handed.frame) (map (handed_of bytes) list)
frames_are bytes [] h = All-nil (λ handed. IsBytes handed.frame)
frames_are bytes (placed ∷ list) h =
    All-cons (λ handed. IsBytes handed.frame) (handed_of bytes placed) (map (handed_of bytes) list) (bytes_within (placed.at + 16) placed.len bytes h) (frames_are bytes list h)

told_are : (bytes : List ℕ) → IsBytes bytes → All (λ (handed : Handed). IsBytes handed.frame) (told bytes).list
unfolding told
told_are bytes h = frames_are bytes (capture bytes).list h

-- they are the first that it tells
pub tells_first : (bytes left : Option (List ℕ)) (now : Reader) (given : List Handed) → GivenSo bytes now left given → IfSome bytes IsBytes
    → (later : Told) × MayTell bytes (after_given given later)
tells_first None left now given so are = (told_end None, record { are = All-append (λ h. IsBytes h.frame) given [] so.are (All-nil (λ h. IsBytes h.frame)); same = tt })
tells_first (Some all) None now given so are = absurd so.telling
tells_first (Some all) (Some rest) now given so are =
    (rest_of now rest, record { are = subst (λ (t : Told). All (λ (h : Handed). IsBytes h.frame) t.list) so.telling (told_are all are); same = sym so.telling })

-- ---- what is seen of a shelf

module _ (a b x y : Shelving) (out : Sinking) (first : a ≡ x) (last : b ≡ y) where
  pub seen_idle_beside : (board : ℕ) → y.file ≡ x.file → x.faults ≤ y.faults → x.misses ≤ y.misses → Idle (stage_beside a out board) (stage_beside b out board)
  seen_idle_beside board files faults misses = rw (first, last) (record { later = record { files = files; faults = faults; misses = misses; out_faults = omega arith; board = omega arith }; held = Keeps-refl out.held })

  pub seen_idle : y.file ≡ x.file → x.faults ≤ y.faults → x.misses ≤ y.misses → Idle (stage a out) (stage b out)
  seen_idle files faults misses = seen_idle_beside 0 files faults misses

  pub seen_rose : Rose x.faults y.faults → Rose a.faults b.faults
  seen_rose rose = rw (first, last) rose

  pub seen_taken : (size : ℕ) → TakesBytes size x.left y.left → TakesBytes size a.left b.left
  seen_taken size taken = rw (first, last) taken
