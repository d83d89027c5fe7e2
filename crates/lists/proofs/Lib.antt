pub mod Laws
pub mod Tests
pub mod Cases
pub mod Stores
pub mod Choices
pub mod Storing
