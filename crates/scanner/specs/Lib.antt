pub mod Scan
pub mod Skip
