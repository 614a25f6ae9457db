-- Room: no queue ever holds more messages than its room.
-- A cache has at most 4 Acquires and 4 Releases outstanding, and takes a Grant only where a fifth GrantAck wouldn't wait
-- (`Sizes`, `Events`). Each message of a queue is owed to one of these requests (`Lines`), and by pigeonholes (`Pigeons`)
-- a queue is no longer than they allow (`Queues`).
pub mod Events
pub mod Lines
pub mod Pigeons
pub mod Queues
pub mod Sizes
