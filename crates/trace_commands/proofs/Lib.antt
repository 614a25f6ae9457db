pub mod Paged
pub mod Told
