pub mod Chunks
pub mod Bounds
pub mod Quantities
pub mod Scanning
pub mod Judging
