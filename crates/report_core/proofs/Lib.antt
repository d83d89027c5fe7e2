pub mod Transcript
pub mod Hearing
pub mod Putting
mod Turning
pub mod Feeding
pub mod Sending
