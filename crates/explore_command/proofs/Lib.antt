pub mod Explored
pub mod Faults
pub mod Kept
pub mod Refused
mod Runs
pub mod Asking
pub mod Shown
mod ModelKept
mod Remarked
mod Readable
mod Searched
pub mod NeverStops
pub mod Sought
mod Ways
