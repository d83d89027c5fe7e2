mod Skips
mod Skipping
pub mod Running
