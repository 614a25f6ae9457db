pub use Rattle.machine_model.specs.Changing
pub use Rattle.machine_model.specs.Words
pub use Rattle.machine_model.specs.declared.act.Deed.TheVariants
pub use Rattle.machine_model.specs.Steps
pub use Rattle.machine_model.specs.declared.act.Deed
pub use Rattle.machine_model.specs.TheVariants as KindVariants
pub use Rattle.machine_model.specs.Rules
