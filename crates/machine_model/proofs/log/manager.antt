-- What the manager sends it may send: Probes and Grants after what they answer, a Grant without data only where the
-- asking hart still has its copy.
-- A line's state says how many Acquires, Probes and Grants are open (`Numbers`, `Sums`); what a hart lost since its last
-- Acquire is read off the log (`Readings`, `Losses`). `Kept` says what holds, and each act keeps it; `Always` concludes.
pub mod Acks
pub mod Alone
pub mod Always
pub mod Answers
pub mod Caches
pub mod Grants
pub mod Kept
pub mod Losses
pub mod Numbers
pub mod Parts
pub mod Probes
pub mod Queues
pub mod Readings
pub mod Sums
