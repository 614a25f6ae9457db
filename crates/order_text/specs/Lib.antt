pub mod Between
pub mod Fence
pub mod Links
pub mod Naming
pub mod Neighbours
pub mod Telling
pub mod Text
