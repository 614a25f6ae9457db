pub mod ReadRegisters
pub mod StopLaws
pub mod WrittenRegisters
