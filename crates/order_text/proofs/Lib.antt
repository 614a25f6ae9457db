pub mod Gathered
pub mod Held
pub mod Spelled
pub mod Told
pub mod Whole
