pub mod Cleared
pub mod Digits
pub mod Written
pub mod Closing
pub mod Apart
pub mod Alone
pub mod Alike
pub mod Sweeping
