pub mod Passage
pub mod Cards
