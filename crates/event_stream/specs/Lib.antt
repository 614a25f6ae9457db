pub mod Outcomes
pub mod Reports
pub mod Stalls
pub mod Naming
pub mod Accesses
pub mod Comments
pub mod Disassembly
pub mod Lines
pub mod Closing
pub mod Holding
pub mod Noted
pub mod States
pub mod Streams
pub mod Writing
pub mod Telling
pub mod Laws
pub use Rattle.coherent_machine.specs.declared.errors.ReplayError
pub use Rattle.coherent_machine.specs.declared.errors.ReplayError.TheVariants
pub use Rattle.coherent_machine.specs.Machine
pub use Rattle.coherent_machine.specs.TheVariants as ApplyErrorVariants
pub use Rattle.coherent_machine.specs.ApplyError
pub use Rattle.coherent_machine.specs.Applying
pub use Rattle.machine_model.specs.Events
pub use Rattle.machine_model.specs.Views
pub use Rattle.machine_model.specs.Laws as MachineModelLaws
