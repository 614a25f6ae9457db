pub mod Reaching
pub mod Standing
