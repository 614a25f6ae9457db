mod Images
pub mod Once
pub mod Telling
pub mod Told
mod Drained
mod Patched
mod Performed
mod Ends
mod Counting
mod Noted
mod First
