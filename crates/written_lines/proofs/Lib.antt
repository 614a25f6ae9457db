pub mod Listed
pub mod Noted
pub mod Passed
pub mod Looked
