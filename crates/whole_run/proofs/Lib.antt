pub mod Buffers
pub mod Cards
pub mod Histories
pub mod Tracks
pub mod Resuming
pub mod Claims
pub mod Theorem
pub mod Scans
