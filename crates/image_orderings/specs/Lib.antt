pub mod Adding
pub mod Flow
pub mod Forms
pub mod Meeting
pub mod Never
pub mod Orderings
pub mod Programs
pub mod Replaced
