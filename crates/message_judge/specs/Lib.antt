pub mod Names
pub mod Laws
pub mod Breaches
pub mod Following
pub use Rattle.lawful_log.specs.declared.profile.Profile
pub use Rattle.lawful_log.specs.declared.profile.Profile.TheVariants
