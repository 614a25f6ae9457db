pub mod Overtaking
