pub mod Told
pub mod Ended
pub mod Breaching
pub mod Going
