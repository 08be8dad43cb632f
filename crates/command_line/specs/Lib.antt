pub mod Commands
pub mod Lines
pub mod Parses
pub mod Shown
