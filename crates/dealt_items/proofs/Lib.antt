pub mod Dealing
pub mod Sharing
pub mod Summing
pub mod Weaving
