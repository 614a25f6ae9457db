pub mod Config
pub use Rattle.tl_types.specs.Message
pub use Rattle.tl_types.specs.declared.message.Channel.TheVariants
pub use Rattle.tl_types.specs.declared.message.Channel
pub use Rattle.tl_types.specs.declared.message.Msg
