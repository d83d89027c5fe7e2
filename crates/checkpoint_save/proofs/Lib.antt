mod Assembled
mod Behind
pub mod Refused
pub mod Accepted
