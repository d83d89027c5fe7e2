pub mod Decided
pub mod Bytes
pub mod Halves
pub mod Collisions
pub mod Twins
