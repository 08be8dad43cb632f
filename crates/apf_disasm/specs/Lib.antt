pub mod Listing
pub mod Printing
pub mod ReadingBack
pub mod Assembled
