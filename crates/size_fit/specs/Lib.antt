pub mod Choosing
pub mod Sizes
