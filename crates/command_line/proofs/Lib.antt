mod Again
mod Carried
mod Meant
pub mod StreamLeft
mod Leaving
pub mod Litmus
