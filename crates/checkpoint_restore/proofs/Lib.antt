pub mod Positions
mod Restoring
pub mod Accepted
pub mod CheckpointRoundTrip
