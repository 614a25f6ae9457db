pub mod Blanking
pub mod Digits
pub mod Names
