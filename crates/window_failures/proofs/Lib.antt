pub mod Closed
pub mod Emptying
pub mod Reading
pub mod Stopping
pub mod Telling
pub mod Ways
