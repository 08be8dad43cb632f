pub mod AskingLaws
pub mod FieldsSeen
pub mod Rulings
pub mod Verdicts
