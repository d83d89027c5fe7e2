pub mod Matcher
pub mod Stroke
pub mod Shared
