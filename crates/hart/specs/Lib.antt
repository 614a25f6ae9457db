pub mod Run
pub mod Ends
pub mod Local
pub mod Next
pub use Rattle.rv32_exec.specs.Uses
pub use Rattle.rv32_exec.specs.Meaning
pub use Rattle.rv32_exec.specs.Image
pub use Rattle.machine_types.specs.declared.limits.TheConstants
pub use Rattle.rv32_exec.specs.Size
pub use Rattle.machine_types.specs.declared.model.MemoryModel
pub use Rattle.machine_types.specs.declared.model.MemoryModel.TheVariants
pub use Rattle.rv32_exec.specs.Arithmetic
pub use Rattle.rv32_decode.specs.declared.instruction.Instr
pub use Rattle.rv32_decode.specs.Fields
pub use Rattle.rv32_decode.specs.declared.instruction.Instr.TheVariants as InstrVariants
pub use Rattle.rv32_decode.specs.Rows
pub use Rattle.rv32_decode.specs.declared.instruction.Annotations
pub use Rattle.rv32_decode.specs.declared.instruction.SystemOp.TheVariants as SystemOpVariants
pub use Rattle.rv32_exec.specs.Registers
pub use Rattle.rv32_exec.specs.Width
pub use Rattle.rv32_exec.specs.Actions
pub use Rattle.rv32_exec.specs.declared.actions.Action
pub use Rattle.rv32_exec.specs.declared.actions.Action.TheVariants as ActionVariants
