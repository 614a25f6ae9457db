pub mod Faults
pub mod Folders
pub mod Targets
pub use Rattle.exploration_text.specs.declared.wording.WordName
pub use Rattle.command_files.specs.Named
