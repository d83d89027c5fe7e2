pub mod Lookups
pub mod Counts
pub mod Labels
pub mod Striking
