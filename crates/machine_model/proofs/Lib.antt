-- What the proofs of all folders share. `Plans` says what each act rests on that an event comes to, and `Events` goes from
-- acts to events and lists of events. `Parts` goes from the parts of an act to the act, for what each part keeps, with
-- `CacheCalls` for what a cache answers; `Nodes` is of one node's change, and `Growth` of what each act adds and leaves.
pub mod CacheCalls
pub mod Plans
pub mod Events
pub mod Parts
pub mod Growth
pub mod Nodes
pub mod runs
pub mod coherence
pub mod bytes
pub mod order
pub mod atomicity
pub mod log
pub mod room
pub mod ranges
pub mod ready
