pub mod Digits
pub mod Reading
pub mod Putting
pub mod Back
