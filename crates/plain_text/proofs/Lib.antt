pub mod Digits
pub mod LineCounts
pub mod LineSplitting
pub mod Numerals
pub mod Words
