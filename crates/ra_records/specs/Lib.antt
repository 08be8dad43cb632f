pub mod Advert
pub mod Masks
pub mod Options
pub mod Tiling
