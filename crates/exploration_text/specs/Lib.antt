pub mod Failures
pub mod Sampling
pub mod Text
pub mod Words
pub use Rattle.explorer.specs.Ranks
pub use Rattle.order_text.specs.Naming
pub use Rattle.explorer.specs.Ends
pub use Rattle.explorer.specs.Orders
pub use Rattle.explorer.specs.Outcomes
pub use Rattle.explorer.specs.Schedules
pub use Rattle.explorer.specs.Shown
pub use Rattle.explorer.specs.Visited
pub use Rattle.explorer.specs.declared.exploration.Exploration
pub use Rattle.explorer.specs.declared.found.Found
pub use Rattle.explorer.specs.declared.found.Realisation
pub use Rattle.explorer.specs.declared.found.Realisation.TheVariants as RealisationVariants
pub use Rattle.explorer.specs.Failures as ExplorerFailures
pub use Rattle.explorer.specs.declared.found.FoundFailure
