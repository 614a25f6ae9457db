pub mod Changes
pub mod Nodes
pub mod Drains
mod Answered
mod Decided
mod Probes
mod Rooms
pub mod RowsAlone
mod Fronts
mod PrivateRows
mod FoundPlans
mod FoundAccesses
mod Taken
pub mod Committed
