pub mod Prefix
pub mod Ladder
pub mod Claim
