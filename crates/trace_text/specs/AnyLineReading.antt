-- Reading one line of a trace, whichever it is. The clauses of read_trace don't rest on these words: they are what its parts answer.
use Rattle.std.specs.Prelude.{ℕ, List, Option, Some, codes, nat_lt, ◌&&◌, if◌then◌else◌}
use Rattle.std.specs.Option.{option_map}
use Rattle.text_fields.specs.Reading.{◌>>=◌, pair_at, ended_at, after, number_at, behind, guarded}
use Rattle.hart.specs.declared.retired.Retired.{Retired}
use Rattle.hart.specs.declared.status.Status.{Status}
use Rattle.tl_types.specs.Line.{bytes_of, length_of}
use Rattle.tl_types.specs.declared.line.LineData.{LineData}
use Rattle.trace_text.specs.declared.head.TraceHead.{TraceHead}
use Rattle.trace_text.specs.Scripts.{is_first_version}
use Rattle.trace_text.specs.TraceLines.{first_numbers_at, second_numbers_at, word_field_at, retired_at, operation_at, is_line, logged_at, status_at}
use Rattle.trace_text.specs.TraceReading.{data_at}
use Rattle.trace_text.specs.Traces.{any_set}

-- what stands behind a line
abbrev pub left : {A : Type 0} → Option (A × List ℕ) → Option (List ℕ)
left read = option_map (λ x. x.1) read

unfoldable pub numbers_at : TraceHead → List ℕ → Option (TraceHead × List ℕ)
numbers_at h bytes = if is_first_version h.harts h.line then first_numbers_at bytes else second_numbers_at bytes

unfoldable pub image_fields_at : TraceHead → List ℕ → Option ((ℕ × LineData) × List ℕ)
image_fields_at h bytes = pair_at word_field_at (ended_at 10 (data_at h.line)) bytes >>= λ x. guarded (any_set (bytes_of x.0.1) && is_line h.kib (length_of h.line) x.0.0) x

-- the number of a hart
unfoldable pub hart_at : TraceHead → List ℕ → Option (ℕ × List ℕ)
hart_at h bytes = number_at 32 255 bytes >>= λ x. guarded (nat_lt x.0 h.harts) x

unfoldable pub retired_fields_at : TraceHead → List ℕ → Option ((ℕ × Retired) × List ℕ)
retired_fields_at h bytes = pair_at (hart_at h) retired_at bytes

unfoldable pub status_fields_at : TraceHead → List ℕ → Option ((ℕ × Status) × List ℕ)
status_fields_at h bytes = pair_at (hart_at h) status_at bytes

-- what stands behind the line of a trace that stands here, by what it begins with
abbrev pub from_version : List ℕ → Option (List ℕ)
from_version bytes = behind (after (codes "rvtl-trace 1\n") bytes) (λ rest. Some rest) (after (codes "rvtl-trace 2\n") bytes)

abbrev pub from_status : TraceHead → List ℕ → Option (List ℕ)
from_status h bytes = behind (after (codes "H ") bytes) (λ fields. left (status_fields_at h fields)) (from_version bytes)

abbrev pub from_message : TraceHead → List ℕ → Option (List ℕ)
from_message h bytes = behind (after (codes "M ") bytes) (λ fields. left (logged_at h.harts h.kib h.line fields)) (from_status h bytes)

abbrev pub from_operation : TraceHead → List ℕ → Option (List ℕ)
from_operation h bytes = behind (after (codes "P ") bytes) (λ fields. left (operation_at h.harts fields)) (from_message h bytes)

abbrev pub from_retired : TraceHead → List ℕ → Option (List ℕ)
from_retired h bytes = behind (after (codes "R ") bytes) (λ fields. left (retired_fields_at h fields)) (from_operation h bytes)

abbrev pub from_image : TraceHead → List ℕ → Option (List ℕ)
from_image h bytes = behind (after (codes "I ") bytes) (λ fields. left (image_fields_at h fields)) (from_retired h bytes)

unfoldable pub line_left : TraceHead → List ℕ → Option (List ℕ)
line_left h bytes = behind (after (codes "T ") bytes) (λ fields. left (numbers_at h fields)) (from_image h bytes)
