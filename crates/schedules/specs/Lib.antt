pub mod Circles
pub mod Errors
pub mod Schedules
pub mod Sublists
