pub mod Along
pub mod Faults
pub mod Lines
pub mod Live
pub mod Report
pub mod Scripted
pub mod Streaming
pub mod Text
