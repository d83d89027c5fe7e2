pub mod Summary
pub mod Follow
pub mod Visits
pub mod WatchFits
pub mod Refines
pub mod Passages
