pub mod Running
pub mod Telling
pub mod Runs
pub mod Program
