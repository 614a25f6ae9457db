pub mod Sorting
pub mod Walks
pub mod Shortened
