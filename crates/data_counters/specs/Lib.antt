pub mod Counters
pub mod Memory
