-- What the parts of a program take of its base at most, in bytes. Together they are at most the base.
use Rattle.std.specs.Prelude.{ℕ}

-- the opening and the two ends
abbrev pub ends_room : ℕ
ends_room = 28

-- the rules of the link layer, but for the denied ethertypes
abbrev pub link_room : ℕ
link_room = 20

abbrev pub arp_room : ℕ
arp_room = 112

-- the rules of IPv4, but for the keepalives
abbrev pub ip4_room : ℕ
ip4_room = 248

-- the rules of IPv6 that read its header, and with them all but the records
abbrev pub ip6_header_room : ℕ
ip6_header_room = 124

abbrev pub ip6_room : ℕ
ip6_room = 142

-- the rules of all other frames
abbrev pub last_room : ℕ
last_room = 26
