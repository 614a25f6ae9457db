-- Ranges: all that a machine tells is of its harts, its lines and its words.
-- Runs (`Runs`), what waits in queues (`Lines`) and the log (`Log`) have numbers within their types' and the
-- configuration's bounds, so that code can count and spell them.
pub mod Lines
pub mod Log
pub mod Runs
