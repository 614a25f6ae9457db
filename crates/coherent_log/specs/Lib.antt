pub mod Told
pub mod Rules
pub mod Laws
pub mod Followed
