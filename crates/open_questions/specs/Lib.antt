pub mod Open
pub mod Answers
