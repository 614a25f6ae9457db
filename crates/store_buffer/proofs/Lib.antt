pub mod Places
pub mod Layouts
pub mod Overlaid
pub mod Puts
pub mod StoreLaws
pub mod SingleGroups
