pub mod Limits
pub mod Running
