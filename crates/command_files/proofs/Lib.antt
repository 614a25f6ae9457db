pub mod Ended
pub mod Filled
pub mod Left
pub mod Limits
mod MachineTraces
pub mod Messages
pub mod NoScript
pub mod Replays
pub mod Unread
pub mod Whole
pub mod Written
