pub mod Stage
pub mod Stages
