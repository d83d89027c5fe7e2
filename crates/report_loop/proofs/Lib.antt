pub mod Passing
pub mod Standings
