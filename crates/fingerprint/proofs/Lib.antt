pub mod Modular
pub mod Powers
pub mod Laws
pub mod Behind
pub mod Joins
