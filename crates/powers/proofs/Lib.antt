pub mod Doubling
pub mod Digits
