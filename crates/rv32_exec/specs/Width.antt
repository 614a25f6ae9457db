-- How many bytes a load or a store moves (RISC-V Unprivileged ISA 20191213, chapter 2.6).
use Rattle.std.specs.Prelude.{ℕ}
use Rattle.rv32_exec.specs.declared.actions.Width.{Width}
use Rattle.rv32_exec.specs.declared.actions.Width.TheVariants.{Byte, Half, Word}

abbrev pub byte_count : Width → ℕ
byte_count Byte = 1
byte_count Half = 2
byte_count Word = 4
