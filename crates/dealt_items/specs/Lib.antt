pub mod Dealing
pub mod Sums
