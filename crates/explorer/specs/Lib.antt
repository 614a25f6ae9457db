pub mod Ends
pub mod Orders
pub mod Outcomes
pub mod Ranks
pub mod Standing
pub mod Stuck
pub mod Visited
pub mod Told
pub mod Failures
pub mod Sampled
pub mod Sought
pub use Rattle.schedules.specs.Schedules
pub use Rattle.flat_exploration.specs.Outcomes as FlatExplorationOutcomes
pub use Rattle.flat_exploration.specs.declared.failure.Stop
pub use Rattle.flat_model.specs.Shown
pub use Rattle.performed_words.specs.Words
