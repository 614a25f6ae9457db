pub mod Fencing
pub mod Keeping
pub mod Witnesses
