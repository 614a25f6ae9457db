pub mod History
pub mod Limits
pub mod Recorded
pub use Rattle.tl_types.specs.declared.line.LineSize.TheVariants
