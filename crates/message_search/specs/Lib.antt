pub mod Sought
pub mod First
pub mod Searched
