pub mod Prints
pub mod Theorem
