-- Order: the completed order keeps the preserved program order, and each load returns its sources' bytes.
-- All but plain stores are performed as they retire, so only what orders a plain store before something later could be
-- broken: overlap, a fence, a release (`Rules`). What is kept of a hart's waiting stores is in `Kept`: they are plain
-- stores of its list, in groups that no fence divides. Each deed, step and act keeps it (`Deeds`, `Steps`, `Acts`), and
-- so every list of events does (`Events`); from there to the order of all harts leads `Whole`. Beside it, a load takes
-- each byte from the newest waiting store or else from the copy (`Bytes`, `Loads`), so that values hold (`Values`,
-- `Reads`, `Returns`, and with coherence `Joint`).
pub mod Acts
pub mod Buffers
pub mod Bytes
pub mod Deeds
pub mod Events
pub mod Joint
pub mod Kept
pub mod Last
pub mod Lists
pub mod Loads
pub mod Moves
pub mod Reads
pub mod Returns
pub mod Rules
pub mod Split
pub mod Steps
pub mod Traces
pub mod Values
pub mod Whole
