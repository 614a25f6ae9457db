pub mod Breaches
pub mod Checking
pub mod Logs
pub mod Messages
pub mod Piped
pub mod Watching
