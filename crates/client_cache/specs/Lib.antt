pub mod Array
pub mod AtLine
pub mod Cache
pub mod Distinct
pub mod Held
pub mod Row
pub mod Shape
pub mod Word
