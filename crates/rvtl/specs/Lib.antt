pub mod Delivered
pub mod Words
