pub mod Allowing
pub mod Known
pub mod Patterns
