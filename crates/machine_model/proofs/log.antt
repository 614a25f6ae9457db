-- The log is lawful: each rule of the log of messages holds after every list of events.
-- What came out of a queue is a beginning of what went in (`Queues`, `Events`). What a cache sends it may send
-- (`Caches`, `Sends`, `Answers`), since its flags are what the log has unanswered (`Flags`). `Parts` puts the lawful log
-- together; what the manager sends is in the folder `manager`.
pub mod Acts
pub mod Answers
pub mod Caches
pub mod Counts
pub mod Events
pub mod Flags
pub mod Fronts
pub mod Lists
pub mod Parts
pub mod Queues
pub mod Sends
pub mod Sums
pub mod manager
