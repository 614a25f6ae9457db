pub mod Joined
pub mod FailureLines
pub use Rattle.explorer.proofs.Once
