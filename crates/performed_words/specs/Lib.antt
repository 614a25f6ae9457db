pub mod Behind
pub mod Words
pub use Rattle.flat_exploration.specs.Outcomes
pub use Rattle.flat_exploration.specs.Onward
pub use Rattle.flat_exploration.specs.Words as MachineModelWords
