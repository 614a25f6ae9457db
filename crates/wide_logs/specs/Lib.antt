pub mod Shapes
pub mod Entries
pub mod Reading
pub mod Logs
pub mod Stops
