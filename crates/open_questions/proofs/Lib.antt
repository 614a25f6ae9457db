pub mod Listed
pub mod Noted
pub mod Opened
