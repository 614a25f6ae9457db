pub mod Adding
pub mod Joined
pub mod Keeping
pub mod Paging
pub mod Stepping
pub mod Unfinished
