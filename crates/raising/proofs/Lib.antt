pub mod Marks
pub mod Stages
pub mod Walks
pub mod Strokes
