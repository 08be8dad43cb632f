-- Made frames: one for each number from 1 on, field by field. Ethernet II; ARP (RFC 826); IPv4 (RFC 791, section 3.1); UDP
-- (RFC 768); IPv6 (RFC 8200, section 3); router advertisements (RFC 4861, section 4.2).
use Rattle.std.specs.Prelude.{ℕ, ◌/◌, ◌%◌, ◌==◌, if◌then◌else◌, List, [], ◌∷◌, ◌++◌, replicate}
use Rattle.std.specs.Int.{bytes_high_first}

-- a field of so many bytes, the highest first
abbrev pub field : ℕ → ℕ → List ℕ
field size value = bytes_high_first size value

-- a field of one byte
abbrev pub octet : ℕ → List ℕ
octet value = value ∷ []

-- destination, source and EtherType
abbrev pub ethernet : ℕ → ℕ → List ℕ
ethernet destination ethertype = field 6 destination ++ field 6 0x020000000099 ++ field 2 ethertype

-- An ARP request of 192.168.1.9 to all, for the address 192.168.1 with this last byte: kind of network, kind of address,
-- their lengths, operation; sender's MAC and address, target's MAC and address.
unfoldable pub arp_frame : ℕ → List ℕ
arp_frame last =
    ethernet 0xffffffffffff 0x0806
    ++ field 2 0x0001 ++ field 2 0x0800 ++ octet 0x06 ++ octet 0x04 ++ field 2 0x0001
    ++ field 6 0x020000000099 ++ field 4 0xc0a80109
    ++ field 6 0x000000000000 ++ field 3 0xc0a801 ++ octet last

-- A datagram of UDP over IPv4 without data, from 192.168.1.9 and port 5000 to this address and port 5001: version,
-- length, identification and fragment, time to live and protocol and checksum, source, destination; ports, length,
-- checksum.
unfoldable pub datagram : ℕ → ℕ → List ℕ
datagram mac address =
    ethernet mac 0x0800
    ++ field 4 0x4500001c ++ field 4 0x00000000 ++ field 4 0x40110000 ++ field 4 0xc0a80109 ++ field 4 address
    ++ field 2 0x1388 ++ field 2 0x1389 ++ field 2 0x0008 ++ field 2 0x0000

-- A router advertisement from the link-local address with this last byte to all nodes: the IPv6 header; type and code,
-- checksum, hop limit and flags, router lifetime, reachable time, retransmission time; then the options source link-layer
-- address, MTU, prefix information and RDNSS.
unfoldable pub advertisement : ℕ → List ℕ
advertisement last =
    ethernet 0x333300000001 0x86dd
    ++ field 4 0x60000000 ++ field 2 0x0058 ++ octet 0x3a ++ octet 0xff
    ++ field 15 0xfe8000000000000000000000000000 ++ octet last
    ++ field 16 0xff020000000000000000000000000001
    ++ field 2 0x8600 ++ field 2 0x0000 ++ field 2 0x4000 ++ field 2 0x0708 ++ field 4 0x00000000 ++ field 4 0x00000000
    ++ field 2 0x0101 ++ field 6 0x020000000099
    ++ field 2 0x0501 ++ field 2 0x0000 ++ field 4 0x000005dc
    ++ field 2 0x0304 ++ field 2 0x40c0 ++ field 4 0x00278d00 ++ field 4 0x00093a80 ++ field 4 0x00000000
    ++ field 16 0x20010db8000000000000000000000000
    ++ field 2 0x1903 ++ field 2 0x0000 ++ field 4 0x00000708 ++ field 16 0x20010db8000000000000000000000001

-- a frame to all of the EtherType 88a2, with 46 zero bytes behind its header
unfoldable pub denied_frame : List ℕ
denied_frame = ethernet 0xffffffffffff 0x88a2 ++ replicate 46 0x00

-- A datagram of UDP over IPv6 without data, to ff02::fb and port 5353: the IPv6 header; ports, length, checksum.
unfoldable pub name_query : List ℕ
name_query =
    ethernet 0x3333000000fb 0x86dd
    ++ field 4 0x60000000 ++ field 2 0x0008 ++ octet 0x11 ++ octet 0xff
    ++ field 16 0xfe800000000000000000000000000099
    ++ field 16 0xff0200000000000000000000000000fb
    ++ field 2 0x14e9 ++ field 2 0x14e9 ++ field 2 0x0008 ++ field 2 0x0000

-- the kth made frame, by k mod 6
unfoldable pub made_frame : ℕ → List ℕ
made_frame k =
    if k % 6 == 0 then arp_frame (k % 256)
    else if k % 6 == 1 then datagram 0x020000000001 0xc0a80105
    else if k % 6 == 2 then datagram 0xffffffffffff 0xc0a801ff
    else if k % 6 == 3 then advertisement (k / 6 % 3)
    else if k % 6 == 4 then denied_frame
    else name_query
