-- Atomicity: no store of another hart to the reserved word stands between an LR and the SC that it is paired with.
-- What is kept of a hart's pairs, and of the LR that its reservation is of, is in `Kept`. A reserved word's line is
-- writable in its hart's cache, so nobody else writes there while the reservation lasts; messages only take reservations
-- away (`Nodes`). Each deed and act keeps it (`Deeds`, `Acts`, `Steps`), and so every list of events does (`Always`).
pub mod Acts
pub mod Always
pub mod Deeds
pub mod Kept
pub mod Nodes
pub mod Order
pub mod Steps
