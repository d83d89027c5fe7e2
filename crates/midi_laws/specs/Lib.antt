pub mod Writer
pub mod FormerRule
