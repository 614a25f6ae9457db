pub mod Propositions
pub mod Questions
pub mod Lines
pub mod Tests
