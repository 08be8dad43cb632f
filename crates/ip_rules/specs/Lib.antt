pub mod Ip4Listing
pub mod Ip6Listing
