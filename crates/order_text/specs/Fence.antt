-- The FENCE that orders two operations (RISC-V Unprivileged ISA 20191213, chapter 2.7).
use Rattle.std.specs.Prelude.{ℕ}
use Rattle.memory_model.specs.declared.operation.Kind.{Kind}
use Rattle.memory_model.specs.declared.operation.Kind.TheVariants.{Load, Store, Lr, Sc, Amo}
use Rattle.rv32_decode.specs.declared.instruction.Instr.{Instr}
use Rattle.rv32_decode.specs.declared.instruction.Instr.TheVariants as instr

-- the smallest set with the operations of a kind: R (2) or W (1) alone; R for an AMO, which is a load too
abbrev pub smallest_set : Kind → ℕ
smallest_set Load = 2
smallest_set Store = 1
smallest_set Lr = 2
smallest_set Sc = 1
smallest_set Amo = 2

-- that of operations of two kinds, with the smallest sets
abbrev pub fence_between : Kind → Kind → Instr
fence_between a b = instr.Fence (record { before = smallest_set a; after = smallest_set b })
