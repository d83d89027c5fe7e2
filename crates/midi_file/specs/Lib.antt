pub mod File
pub mod Track
pub mod Strokes
pub mod Calls
