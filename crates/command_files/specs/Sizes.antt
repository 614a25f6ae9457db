-- The machine that a script is for, and that the words name.
use Rattle.std.specs.Prelude.{ℕ, List, IsSome, IsTrue, unwrap_or}
use Rattle.command_settings.specs.declared.wanted.MachineOptions.{MachineOptions}
use Rattle.elf_loader.specs.Size.{IsMemoryKib}
use Rattle.machine_types.specs.Config.{is_within_limits}
use Rattle.machine_types.specs.declared.config.Config.{Config}
use Rattle.machine_types.specs.declared.model.MemoryModel.{MemoryModel}
use Rattle.machine_types.specs.declared.event.Event.{Event}
use Rattle.tl_types.specs.Line.{size_of_bytes}
use Rattle.tl_types.specs.declared.line.LineSize.{LineSize}
use Rattle.tl_types.specs.declared.line.LineSize.TheVariants.{Bytes16}
use Rattle.trace_text.specs.declared.script.Script.{Script}

-- the machine that a script is for
abbrev pub config_of : Script → MemoryModel → Config
config_of s model = record { harts = s.harts; sets = s.sets; ways = s.ways; line = s.line; model = model; within = s.within }

-- the script of these events for a machine with so much memory
abbrev pub script_for : Config → (kib : ℕ) → List Event → Script
script_for config kib events = record { harts = config.harts; kib = kib; sets = config.sets; ways = config.ways; line = config.line; events = events; within = config.within }

-- a machine of the size that was named can be made
pub record IsInside (machine : MachineOptions) : Type 0 where
  pub line : IsSome (size_of_bytes machine.line)
  pub limits : IsTrue (is_within_limits machine.harts machine.sets machine.ways)
  pub memory : IsMemoryKib machine.memory

-- no machine is of the size that was named
abbrev pub IsOutside : MachineOptions → Type 0
IsOutside machine = ¬ IsInside machine

-- the size of line that the words name; 16 bytes stand for a size that no line has
abbrev pub line_named : MachineOptions → LineSize
line_named machine = unwrap_or (size_of_bytes machine.line) Bytes16

-- the machine that the words name, where it can be made
abbrev pub config_named : (machine : MachineOptions) → IsInside machine → Config
config_named machine inside = record { harts = machine.harts; sets = machine.sets; ways = machine.ways; line = line_named machine; model = machine.model; within = inside.limits }
