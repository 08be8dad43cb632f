-- A made capture reads back.
use Rattle.std.proofs.Common.{◌≡◌, ℕ, zero, suc, ◌+◌, ◌*◌, ◌≤◌, List, [], ◌∷◌, ◌++◌, length, Some, None, refl, sym, ap, ◌∙◌, arith}
use Rattle.std.specs.Prelude.{map}
use Rattle.std.specs.List.{flat_map, range_with_len}
use Rattle.std.proofs.lemmas.List.{flat_map_more, length-append, map-append}
use Rattle.pcap_files.specs.declared.kinds.Stamp.{Stamp}
use Rattle.pcap_files.specs.declared.kinds.Placed.{Placed}
use Rattle.pcap_files.specs.declared.kinds.Records.{Records}
use Rattle.pcap_files.specs.Capture.{capture, frame_of, frames}
use Rattle.pcap_files.specs.Writing.{head_bytes, record_bytes, IsStampInRange}
use Rattle.pcap_files.proofs.Adding.{head_reads_back, put_reads_back}
use Rattle.made_input.specs.MadeFrames.{made_frame}
use Rattle.made_input.specs.MadeCaptures.{made_kind, made_stamp, made_record, made_capture}
use Rattle.made_input.proofs.Counting.{numbers-more, map_more, pieces_short}
use Rattle.made_input.proofs.Records.{frame_short}
use Rattle.apf_base.specs.Limits.{capture_limit}

-- ---- sizes

record_short : (k : ℕ) → length (made_record k) ≤ 158
unfolding made_record
record_short k = let short = frame_short k in omega arith

pub capture_size : (n : ℕ) → length (made_capture n) ≤ 24 + 158 * n
unfolding made_capture
capture_size n =
    let parts = length-append (head_bytes made_kind) (flat_map made_record (range_with_len 1 n)) in
    let records = pieces_short made_record 158 1 n (λ j lt. record_short j) in
    omega arith

-- ---- one record more

abbrev stamp_at : Placed → Stamp
stamp_at placed = placed.stamp

-- the capture of these bytes has no fault, and the made frames up to this number
pub record IsWhole (n : ℕ) (bytes : List ℕ) : Type 0 where
  pub kind : (capture bytes).kind ≡ Some made_kind
  pub end : (capture bytes).end ≡ None
  pub stamps : map (λ (placed : Placed). placed.stamp) (capture bytes).list ≡ map made_stamp (range_with_len 1 n)
  pub frames : frames bytes ≡ map made_frame (range_with_len 1 n)

capture-more : (n : ℕ) → made_capture (suc n) ≡ made_capture n ++ record_bytes made_kind.big (made_stamp (suc n)) (made_frame (suc n))
unfolding made_capture made_record
capture-more n =
    ap (λ (js : List ℕ). head_bytes made_kind ++ flat_map made_record js) (numbers-more 1 n (suc n) (omega arith))
    ∙ sym (flat_map_more made_record (head_bytes made_kind) (range_with_len 1 n) (suc n))

in_range : (k : ℕ) → k ≤ 100000 → IsStampInRange (made_stamp k)
in_range k le = let short = frame_short k in record { sec = omega arith; fraction = omega arith; original = omega arith }

whole_none : IsWhole 0 (made_capture 0)
unfolding made_capture
whole_none =
    let bytes : List ℕ = head_bytes made_kind ++ [] in
    let is = head_reads_back made_kind [] bytes refl refl in
    record {
      kind = ap (λ (r : Records). r.kind) is;
      end = ap (λ (r : Records). r.end) is;
      stamps = ap (λ (r : Records). map stamp_at r.list) is;
      frames = ap (λ (r : Records). map (frame_of bytes) r.list) is;
    }

whole_more : (n : ℕ) (old new : List ℕ) → suc n ≤ 100000 → new ≡ old ++ record_bytes made_kind.big (made_stamp (suc n)) (made_frame (suc n)) → length new ≤ 4294967295 → IsWhole n old → IsWhole (suc n) new
whole_more n old new le e fits w =
    let short = frame_short (suc n) in
    let placed : Placed = record { stamp = made_stamp (suc n); at = length old; len = length (made_frame (suc n)) } in
    let added = put_reads_back made_kind (made_stamp (suc n)) (made_frame (suc n)) old (omega arith) (in_range (suc n) le) new e w.kind w.end fits in
    record {
      kind = ap (λ (r : Records). r.kind) added.records;
      end = ap (λ (r : Records). r.end) added.records;
      stamps = ap (λ (r : Records). map stamp_at r.list) added.records
          ∙ map-append stamp_at (capture old).list (placed ∷ [])
          ∙ ap (λ (t : List Stamp). t ++ made_stamp (suc n) ∷ []) w.stamps
          ∙ sym (map_more made_stamp n);
      frames = added.frames
          ∙ ap (λ (t : List (List ℕ)). t ++ made_frame (suc n) ∷ []) w.frames
          ∙ sym (map_more made_frame n);
    }

pub whole : (n : ℕ) → n ≤ 100000 → IsWhole n (made_capture n)
whole zero le = whole_none
whole (suc n) le =
    let size = capture_size (suc n) in
    whole_more n (made_capture n) (made_capture (suc n)) le (capture-more n) (omega arith) (whole n (omega arith))

pub capture_short : (n : ℕ) → n ≤ 100000 → length (made_capture n) ≤ capture_limit
capture_short n le = let size = capture_size n in omega arith
