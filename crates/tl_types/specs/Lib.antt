pub mod Line
pub mod Message
pub mod Permission
pub mod Shrink
