-- Which lines are well formed under a header, whatever stands around them.
use Rattle.std.specs.Prelude.{◌≡◌, ℕ, ◌+◌, ◌*◌, ◌%◌, ◌<◌, ◌≤◌, true, List, ◌++◌, ◌⊎◌, codes}
use Rattle.elf_loader.specs.Size.{base}
use Rattle.hart.specs.declared.retired.Retired.{Retired}
use Rattle.hart.specs.declared.status.Status.{Status}
use Rattle.tl_types.specs.Line.{bytes_of, length_of}
use Rattle.tl_types.specs.declared.line.LineData.{LineData}
use Rattle.trace_recorder.specs.declared.operation.OpId.{OpId}
use Rattle.trace_recorder.specs.declared.logged.Logged.{Logged}
use Rattle.trace_text.specs.declared.head.TraceHead.{TraceHead}
use Rattle.trace_text.specs.Scripts.{is_first_version}
use Rattle.trace_text.specs.TraceHeads.{IsTraceHead}
use Rattle.trace_text.specs.TraceLimits.{IsRetired, IsOperation, IsData, IsLogged, IsStatus}
use Rattle.trace_text.specs.Traces.{head, any_set, image_line, retired_lead, retired_text, operation, logged, status}

-- a trace's first line, of either version
abbrev pub IsVersion : List ℕ → Type 0
IsVersion line = (line ≡ codes "rvtl-trace 1\n") ⊎ (line ≡ codes "rvtl-trace 2\n")

-- the second line of some header of the same version
abbrev pub IsNumbersLine : TraceHead → List ℕ → Type 0
IsNumbersLine h line = (k : TraceHead) × (version : List ℕ) × IsTraceHead k × (is_first_version k.harts k.line ≡ is_first_version h.harts h.line) × IsVersion version × (head k ≡ version ++ line)

-- a line of memory begins there
abbrev pub IsInMemory : TraceHead → ℕ → Type 0
IsInMemory h address = (address % length_of h.line ≡ 0) × (base ≤ address) × (address < base + h.kib * 1024)

-- a line of memory that isn't all zero
abbrev pub IsImageLine : TraceHead → List ℕ → Type 0
IsImageLine h line = (address : ℕ) × (held : LineData) × IsData h.line held × (any_set (bytes_of held) ≡ true) × IsInMemory h address × (line ≡ image_line address (bytes_of held))

abbrev pub IsRetiredLine : TraceHead → List ℕ → Type 0
IsRetiredLine h line = (hart : ℕ) × (r : Retired) × (hart < h.harts) × IsRetired r × (line ≡ retired_lead hart ++ retired_text r)

abbrev pub IsOperationLine : TraceHead → List ℕ → Type 0
IsOperationLine h line = (o : OpId) × IsOperation h.harts o × (line ≡ operation o)

abbrev pub IsLoggedLine : TraceHead → List ℕ → Type 0
IsLoggedLine h line = (l : Logged) × IsLogged h l × (line ≡ logged l)

abbrev pub IsStatusLine : TraceHead → List ℕ → Type 0
IsStatusLine h line = (hart : ℕ) × (s : Status) × (hart < h.harts) × IsStatus s × (line ≡ status hart s)

-- a first line of either version, a second line of the header's version, or another line that a trace with this header may have somewhere
abbrev pub IsTraceLine : TraceHead → List ℕ → Type 0
IsTraceLine h line = IsVersion line ⊎ IsNumbersLine h line ⊎ IsImageLine h line ⊎ IsRetiredLine h line ⊎ IsOperationLine h line ⊎ IsLoggedLine h line ⊎ IsStatusLine h line
