pub mod History
pub mod Run
pub mod Strokes
