pub mod Names
pub mod Seeing
pub mod Sending
