pub mod Coding
pub mod Course
pub mod Sound
