pub mod Stops
pub mod Scanning
pub mod Places
pub mod Header
pub mod Initial
pub mod Rows
