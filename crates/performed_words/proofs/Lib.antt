pub mod Aligned
mod Nothing
