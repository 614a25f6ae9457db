pub mod Images
pub mod Kinds
pub mod Orders
pub mod Pages
pub use Rattle.check_command.specs.Checking
pub use Rattle.check_command.specs.Messages
pub use Rattle.check_command.specs.declared.messages.MessageCheck
