pub mod Rack
pub mod Labels
