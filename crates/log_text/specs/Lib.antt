pub mod Contradictions
pub mod Ending
pub mod Meant
pub mod Names
pub mod Objections
pub mod Opened
pub mod Places
pub mod Verdicts
pub mod Words
pub use Rattle.message_judge.specs.Laws
pub use Rattle.message_judge.specs.Following
pub use Rattle.message_judge.specs.declared.verdict.MessageBreach
pub use Rattle.message_judge.specs.declared.verdict.MessageVerdict
pub use Rattle.lawful_log.specs.declared.profile.Profile
pub use Rattle.message_judge.specs.Breaches
pub use Rattle.message_judge.specs.declared.breaches.Breaches as FoundBreaches
