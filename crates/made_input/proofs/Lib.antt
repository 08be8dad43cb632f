pub mod Counting
pub mod Records
pub mod SaidLines
pub mod Said
pub mod Whole
