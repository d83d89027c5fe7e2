pub mod Sizes
pub mod Fits
