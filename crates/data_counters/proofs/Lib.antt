pub mod Adding
pub mod Apart
pub mod Listed
pub mod Words
