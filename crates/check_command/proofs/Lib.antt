mod Objected
pub mod Told
pub mod Unread
pub mod Logs
pub mod Traces
pub mod Piping
