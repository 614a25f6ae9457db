-- The limits of a trace's header.
use Rattle.std.specs.Prelude.{◌≡◌, ◌+◌, ◌*◌, ◌%◌, ◌≤◌}
use Rattle.machine_types.specs.declared.limits.TheConstants.{MAX_HARTS}
use Rattle.elf_loader.specs.Size.{base, IsMemoryKib}
use Rattle.trace_text.specs.declared.head.TraceHead.{TraceHead}

-- as many harts as a machine has, memory of a size that it may have, and a word of it at the entry
pub record IsTraceHead (h : TraceHead) : Type 0 where
  pub some_hart : 1 ≤ h.harts
  pub few_harts : h.harts ≤ MAX_HARTS
  pub memory : IsMemoryKib h.kib
  pub aligned : h.entry % 4 ≡ 0
  pub from : base ≤ h.entry
  pub inside : h.entry + 4 ≤ base + h.kib * 1024
