pub mod Report
pub mod ScriptFaults
pub mod ScriptLines
pub mod ScriptReading
pub mod Scripts
pub mod Spelling
pub mod WordReading
pub mod Words
