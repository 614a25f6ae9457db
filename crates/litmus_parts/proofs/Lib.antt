pub mod Reading
pub mod Adding
pub mod Loops
pub mod Labels
