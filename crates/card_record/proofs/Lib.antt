pub mod Sizes
mod Positions
mod Fits
mod Assembled
mod Reading
pub mod SignatureRoundTrip
