pub mod Replaying
pub mod Unfinished
pub mod Explaining
pub mod Charting
pub mod Waving
