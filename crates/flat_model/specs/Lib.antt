pub mod Flat
pub mod Steps
pub mod Changing
pub mod Events
pub mod Shown
pub mod Projected
pub mod Laws
pub mod Plays
pub use Rattle.machine_model.specs.Views
pub use Rattle.machine_model.specs.Events as MachineModelEvents
pub use Rattle.machine_model.specs.Laws as MachineModelLaws
pub use Rattle.machine_model.specs.Operations
pub use Rattle.machine_model.specs.Order
pub use Rattle.machine_model.specs.Operation
pub use Rattle.machine_model.specs.Traces
