pub mod Answering
pub mod Kept
