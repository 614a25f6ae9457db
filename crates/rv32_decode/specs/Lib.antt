pub mod Decoding
pub mod Encoding
pub mod Fence
pub mod Fields
pub mod Laws
pub mod Numbers
pub mod Ranges
pub mod Rows
