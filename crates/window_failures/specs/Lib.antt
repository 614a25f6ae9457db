pub mod Failing
pub mod Laws
pub use Rattle.window_model.specs.Failures
pub use Rattle.window_model.specs.Failure
pub use Rattle.window_model.specs.Stop
