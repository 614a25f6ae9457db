mod Lines
mod Expanding
mod Placed
pub mod Running
pub mod Taken
