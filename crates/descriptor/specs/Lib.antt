pub mod Reads
pub mod Heard
