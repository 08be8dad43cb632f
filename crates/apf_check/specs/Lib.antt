pub mod Orderly
pub mod Marks
pub mod Ends
pub mod Answers
pub mod Assembled
