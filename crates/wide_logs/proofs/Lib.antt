pub mod ReadBack
pub mod Stops
