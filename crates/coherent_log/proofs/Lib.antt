pub mod Latest
pub mod Listed
pub mod Noted
pub mod Ranks
pub mod Breaking
pub mod Entries
pub mod Looked
pub mod Passing
