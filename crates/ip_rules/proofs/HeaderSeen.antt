-- What stands behind an IPv4 header is found by its length.
use Rattle.std.proofs.Common.{◌≡◌, ℕ, zero, suc, ◌+◌, ◌-◌, ◌*◌, ◌/◌, ◌%◌, ◌<◌, ◌≤◌, Bool, true, false, cond, eqb, List, [], ◌∷◌, length, take, drop, get_or, Some, None, sym, ap, subst, ◌∙◌, arith}
use Rattle.std.specs.Prelude.{nat_lt, slice_index}
use Rattle.std.proofs.lemmas.List.{get_or-drop}
use Rattle.apf_coding.specs.Words.{word}
use Rattle.apf_coding.specs.Meaning.{State, frame_number}
use Rattle.frame_views.specs.Fields.{bytes_value, field, part}
use Rattle.frame_views.specs.Packets.{header_length}
use Rattle.policy_state.proofs.FieldsSeen.{number_seen, bytes_seen}
use Rattle.apf_asm.specs.Saying.{IsReady}
use Rattle.apf_asm.proofs.Rules.{frame_bytes}

header_cases : (b : ℕ) (t : Bool) → cond t (b % 16 * 4) 0 ≤ 60
header_cases b true = omega arith
header_cases b false = omega arith

pub header_small : (frame : List ℕ) → header_length frame ≤ 60
header_small frame = header_cases (slice_index frame 14) (eqb (slice_index frame 14 / 16) 4)

pub header_slot : (n : ℕ) (frame : List ℕ) (age : ℕ) (m : State) → IsReady n frame age m → get_or m.slots 13 0 ≡ header_length frame
header_slot n frame age m ready = ap (λ (slots : List ℕ). get_or slots 13 0) ready.slots

-- a place behind the header is no sum that wraps
place_behind : (k : ℕ) (frame : List ℕ) → k ≤ 100 → word (k + header_length frame) ≡ k + header_length frame
place_behind k frame le = let small = header_small frame in omega arith

place_behind_turned : (k : ℕ) (frame : List ℕ) → k ≤ 100 → word (header_length frame + k) ≡ k + header_length frame
place_behind_turned k frame le = let small = header_small frame in omega arith

-- ---- the number in one byte

one_value : (xs : List ℕ) (k : ℕ) → k ≡ 1 → get_or xs 0 0 < 256 → bytes_value (take k xs) < 256
one_value [] (suc k) e lt = omega arith
one_value (b ∷ xs) (suc zero) e lt = omega arith
one_value xs zero e lt = absurd (omega arith)
one_value xs (suc (suc k)) e lt = absurd (omega arith)

some_value : (missing : Bool) (x v : ℕ) → cond missing None (Some x) ≡ Some v → x ≡ v
some_value true x v e = absurd cc
some_value false x v e = cc

pub byte_small : (frame : List ℕ) (at v : ℕ) → ((k : ℕ) → slice_index frame k < 256) → field frame at 1 ≡ Some v → v < 256
unfolding field
byte_small frame at v bytes e =
    let here : get_or (drop at frame) 0 0 < 256 = subst (λ (b : ℕ). b < 256) (sym (get_or-drop at frame 0 0)) (bytes (at + 0)) in
    subst (λ (x : ℕ). x < 256) (some_value (nat_lt (length frame) (at + 1)) _ v e)
    (one_value (drop at frame) (at + 1 - at) (omega arith) here)

pub bytes_behind : (frame : List ℕ) (k len : ℕ) → k ≤ 100 → frame_bytes frame (word (header_length frame + k)) len ≡ part frame (k + header_length frame) len
bytes_behind frame k len le =
    ap (λ (at : ℕ). frame_bytes frame at len) (place_behind_turned k frame le)
    ∙ bytes_seen frame (k + header_length frame) len

pub number_behind : (frame : List ℕ) (k width : ℕ) → k ≤ 100 → frame_number frame (word (k + header_length frame)) width ≡ field frame (k + header_length frame) width
number_behind frame k width le =
    ap (λ (at : ℕ). frame_number frame at width) (place_behind k frame le)
    ∙ number_seen frame (k + header_length frame) width
