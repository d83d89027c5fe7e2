pub mod Walk
pub mod Climb
pub mod Quiet
