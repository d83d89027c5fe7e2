pub mod Sizes
pub mod Head
pub mod Fits
pub mod Writing
pub mod Accepted
pub mod Refused
pub mod Made
