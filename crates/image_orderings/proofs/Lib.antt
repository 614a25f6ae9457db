mod Coming
mod Holding
pub mod Inside
mod Own
mod Parting
mod Sweeping
pub mod Variants
mod Walked
