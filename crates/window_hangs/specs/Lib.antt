pub mod Hanging
pub mod Laws
