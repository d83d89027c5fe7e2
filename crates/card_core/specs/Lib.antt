pub mod Card
pub mod Argument
