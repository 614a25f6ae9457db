pub mod Leading
pub mod Played
mod Replaying
pub mod Rounds
pub mod Shorter
pub mod Told
