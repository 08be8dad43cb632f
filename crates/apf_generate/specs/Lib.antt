pub mod Means
pub mod Listing
pub mod Program
pub mod Sizes
pub mod RaListing
pub mod Ranges
