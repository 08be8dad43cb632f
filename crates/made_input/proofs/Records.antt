-- The frames are short, and their records are those that are written.
use Rattle.std.proofs.Common.{◌≡◌, ℕ, ◌+◌, ◌/◌, ◌%◌, ◌≤◌, Bool, true, false, cond, List, length, refl, eqb, lit≤}
use Rattle.pcap_files.specs.Writing.{record_bytes}
use Rattle.made_input.specs.MadeFrames.{arp_frame, datagram, advertisement, denied_frame, name_query, made_frame}
use Rattle.made_input.specs.MadeCaptures.{made_record}

short_if : (b : Bool) (x y : List ℕ) → length x ≤ 142 → length y ≤ 142 → length (cond b x y) ≤ 142
short_if true x y p q = p
short_if false x y p q = q

arp_short : (last : ℕ) → length (arp_frame last) ≤ 142
unfolding arp_frame
arp_short last = lit≤ tt

datagram_short : (mac address : ℕ) → length (datagram mac address) ≤ 142
unfolding datagram
datagram_short mac address = lit≤ tt

advertisement_short : (last : ℕ) → length (advertisement last) ≤ 142
unfolding advertisement
advertisement_short last = lit≤ tt

denied_short : length denied_frame ≤ 142
unfolding denied_frame
denied_short = lit≤ tt

query_short : length name_query ≤ 142
unfolding name_query
query_short = lit≤ tt

pub frame_short : (k : ℕ) → length (made_frame k) ≤ 142
unfolding made_frame
frame_short k =
    short_if (eqb (k % 6) 0) (arp_frame (k % 256)) _ (arp_short (k % 256))
    (short_if (eqb (k % 6) 1) (datagram 0x020000000001 0xc0a80105) _ (datagram_short 0x020000000001 0xc0a80105)
    (short_if (eqb (k % 6) 2) (datagram 0xffffffffffff 0xc0a801ff) _ (datagram_short 0xffffffffffff 0xc0a801ff)
    (short_if (eqb (k % 6) 3) (advertisement (k / 6 % 3)) _ (advertisement_short (k / 6 % 3))
    (short_if (eqb (k % 6) 4) denied_frame name_query denied_short query_short))))

pub record_is : (k size : ℕ) (frame slice : List ℕ) → frame ≡ made_frame k → slice ≡ frame → size ≡ length frame
    → record_bytes false (record { sec = 1000 + k; fraction = 0; original = size }) slice ≡ made_record k
unfolding made_record
record_is k size frame slice e s n = rw (n, s, e) refl
