pub mod Outcomes
pub mod Witnesses
pub use Rattle.flat_model.specs.Shown
pub use Rattle.flat_model.specs.declared.results.HartResult
pub use Rattle.flat_model.specs.Flat
