pub mod Calls
pub mod Prints
pub mod Made
