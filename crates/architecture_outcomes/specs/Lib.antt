pub mod Failings
pub mod Outcomes
pub mod Text
pub mod Visited
pub use Rattle.window_search.specs.declared.left_out.Reach.TheVariants
pub use Rattle.window_search.specs.declared.left_out.Reach
pub use Rattle.window_search.specs.LeftOut
pub use Rattle.window_search.specs.Met
pub use Rattle.window_search.specs.Stops
pub use Rattle.window_search.specs.FailingRuns
pub use Rattle.window_search.specs.Failure
pub use Rattle.window_search.specs.declared.failing.FailedRun
pub use Rattle.window_search.specs.HartStops
pub use Rattle.exploration_text.specs.ExplorerFailures
pub use Rattle.exploration_text.specs.Found
pub use Rattle.exploration_text.specs.Ends
pub use Rattle.exploration_text.specs.Outcomes as ExplorerOutcomes
pub use Rattle.window_search.specs.WindowModelComplete as Complete
pub use Rattle.performed_words.specs.Words
pub use Rattle.exploration_text.specs.Schedules
pub use Rattle.witnesses.specs.declared.witness.Witness
pub use Rattle.witnesses.specs.Witnesses
