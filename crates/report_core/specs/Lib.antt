pub mod Output
pub mod Progress
pub mod Turn
pub mod Calls
pub mod Sent
