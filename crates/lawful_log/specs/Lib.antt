pub mod Rules
pub mod Laws
pub mod Facts
pub mod Followed
pub mod Awaited
pub use Rattle.machine_model.specs.LawfulLog
