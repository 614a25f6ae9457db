pub mod Entries
pub mod Lookups
pub mod Named
pub mod Order
pub mod Seen
pub mod Short
pub mod Symbols
pub mod Tables
