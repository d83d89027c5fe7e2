pub mod Storing
pub mod Room
pub mod Notes
