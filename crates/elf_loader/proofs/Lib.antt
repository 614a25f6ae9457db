pub mod Faults
pub mod Loaded
pub mod Overlap
pub mod Placing
pub mod Sizes
pub mod Table
