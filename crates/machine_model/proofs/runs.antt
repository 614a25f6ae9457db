-- Runs: each hart's list is a run of the image from reset, and its status says how it ended.
-- A step retires only the image's instruction at the hart's pc, with the value that it read (`Retiring`), or stops the
-- hart (`Stopping`); whatever else comes leaves the list alone (`Runs`). A Local event is as many single steps (`Batches`).
pub mod Batches
pub mod Retiring
pub mod Runs
pub mod Stopping
