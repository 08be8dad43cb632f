pub mod Rightness
pub mod Answering
pub mod Marked
pub mod Search
pub mod Meanings
pub mod Ending
pub mod Checked
pub mod Laying
