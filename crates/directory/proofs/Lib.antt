pub mod Bytes
pub mod Sets
pub mod Masks
pub mod Entries
pub mod Sound
pub mod Calls
pub mod Slots
