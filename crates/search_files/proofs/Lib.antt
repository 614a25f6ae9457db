pub mod Files
pub mod Readable
pub mod Words
