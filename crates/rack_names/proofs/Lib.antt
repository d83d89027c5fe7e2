pub mod Every
pub mod Seeking
