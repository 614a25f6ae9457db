pub mod Endings
pub mod Rows
pub mod Alone
pub mod Fetches
