pub mod Visits
pub mod Midway
pub mod WalkFollows
pub mod Count
pub mod Quiet
mod Rounds
pub mod Climbs
