-- Reading the sections of a trace from left to right. The clauses of read_trace don't rest on these words: they are what its parts answer.
use Rattle.std.specs.Prelude.{ℕ, zero, suc, ◌+◌, ◌-◌, ◌*◌, ◌/◌, List, [], ◌++◌, Option, Some, None, length, codes, nat_le, replicate}
use Rattle.machine_types.specs.declared.limits.TheConstants.{MAX_ENTRIES}
use Rattle.text_fields.specs.Fields.{number}
use Rattle.text_fields.specs.Reading.{◌>>=◌, led_at, guarded, section_at, numbered_at}
use Rattle.elf_loader.specs.Size.{base}
use Rattle.hart.specs.declared.retired.Retired.{Retired}
use Rattle.hart.specs.declared.status.Status.{Status}
use Rattle.tl_types.specs.Line.{length_of}
use Rattle.trace_recorder.specs.declared.operation.OpId.{OpId}
use Rattle.trace_recorder.specs.declared.logged.Logged.{Logged}
use Rattle.trace_recorder.specs.History.{History}
use Rattle.trace_text.specs.declared.head.TraceHead.{TraceHead}
use Rattle.trace_text.specs.Traces.{retired_lead}
use Rattle.trace_text.specs.TraceLines.{head_at, image_line_at, retired_at, operation_at, logged_at, status_at}

-- so many lines of memory of this width, the first at this address
unfoldable pub image_lines_at : ℕ → ℕ → ℕ → List ℕ → Option (List ℕ × List ℕ)
image_lines_at width zero address bytes = Some ([], bytes)
image_lines_at width (suc n) address bytes = image_line_at (replicate width 0) address bytes >>= λ x. image_lines_at width n (address + width) x.1 >>= λ xs. Some (x.0 ++ xs.0, xs.1)

-- what a hart has retired
unfoldable pub entries_at : ℕ → List ℕ → Option (List Retired × List ℕ)
entries_at hart bytes = section_at (retired_lead hart) retired_at (length bytes) bytes >>= λ x. guarded (nat_le (length x.0) MAX_ENTRIES) x

unfoldable pub performed_at : ℕ → List ℕ → Option (List OpId × List ℕ)
performed_at harts bytes = section_at (codes "P ") (operation_at harts) (length bytes) bytes

unfoldable pub log_at : TraceHead → List ℕ → Option (List Logged × List ℕ)
log_at head bytes = section_at (codes "M ") (logged_at head.harts head.kib head.line) (length bytes) bytes

abbrev pub status_lead : ℕ → List ℕ
status_lead hart = codes "H " ++ number 32 hart

unfoldable pub status_line_at : ℕ → List ℕ → Option (Status × List ℕ)
status_line_at hart bytes = led_at (status_lead hart) status_at bytes

unfoldable pub trace_at : List ℕ → Option (History × List ℕ)
trace_at bytes =
    head_at bytes >>= λ h. image_lines_at (length_of h.0.line) (h.0.kib * 1024 / length_of h.0.line) base h.1 >>= λ m.
    numbered_at entries_at h.0.harts 0 m.1 >>= λ e. performed_at h.0.harts e.1 >>= λ p. log_at h.0 p.1 >>= λ l. numbered_at status_line_at h.0.harts 0 l.1 >>= λ s.
    Some (record { image = record { bytes = m.0; entry = h.0.entry }; line = h.0.line; entries = e.0; statuses = s.0; performed = p.0; log = l.0 }, s.1)

-- how many bytes were read
abbrev pub counted : List ℕ → Option (History × List ℕ) → Option (History × ℕ)
counted bytes None = None
counted bytes (Some y) = Some (y.0, length bytes - length y.1)
