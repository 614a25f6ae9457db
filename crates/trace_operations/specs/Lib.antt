pub mod Indexed
pub mod Placed
pub mod Listed
pub use Rattle.memory_model.specs.Operations
pub use Rattle.memory_model.specs.Order
pub use Rattle.memory_model.specs.declared.operation.Operation
