pub mod ByteMask
pub mod Entry
pub mod Groups
pub mod Layout
pub mod Single
pub mod Stores
