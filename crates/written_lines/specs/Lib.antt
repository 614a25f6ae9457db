pub mod Written
pub mod Granted
pub mod Stores
