pub mod Cards
pub mod Watches
pub mod Racks
