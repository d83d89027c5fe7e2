pub mod Numbers
pub mod Room
pub mod Pasted
pub mod Laws
pub mod Gathered
pub mod Again
