pub mod Fit
pub mod Now
pub mod Keeps
pub mod Follows
pub mod Levels
pub mod Moves
pub mod Room
pub mod Stages
