pub mod Steps
pub mod Chains
pub mod Giving
pub mod Nesting
