pub mod Signature
pub mod Calls
pub mod Made
