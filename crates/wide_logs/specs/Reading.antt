-- Reading a log from left to right. The clauses of read_log don't rest on these words: they are what its parts answer.
use Rattle.std.specs.Prelude.{ℕ, ◌%◌, ◌-◌, ◌==◌, ◌&&◌, Bool, List, Option, Some, None, codes, if◌then◌else◌, nat_le}
use Rattle.text_fields.specs.Reading.{◌>>=◌, chain_at, ended_at, guarded, led_at, number_at, pair_at, seen_at}
use Rattle.tl_types.specs.Message.{channel_of}
use Rattle.tl_types.specs.declared.line.LineData.{LineData}
use Rattle.tl_types.specs.declared.message.Channel.{Channel}
use Rattle.tl_types.specs.declared.message.Msg.{Msg}
use Rattle.trace_text.specs.ScriptReading.{channel_at}
use Rattle.trace_text.specs.TraceLines.{letter_of}
use Rattle.trace_text.specs.TraceReading.{data_at, direction_at, message_at}
use Rattle.wide_logs.specs.Entries.{carries_second}
use Rattle.wide_logs.specs.Shapes.{bytes_of_width, part_of, width_of_bytes}
use Rattle.wide_logs.specs.declared.entry.WideLogged.{WideLogged}
use Rattle.wide_logs.specs.declared.shape.Shape.{Shape}
use Rattle.wide_logs.specs.declared.shape.Width.{Width}

unfoldable pub width_at : List ℕ → Option (Width × List ℕ)
width_at bytes = number_at 10 128 bytes >>= λ n. width_of_bytes n.0 >>= λ w. Some (w, n.1)

-- the first line
unfoldable pub shape_at : List ℕ → Option (Shape × List ℕ)
shape_at bytes = led_at (codes "rvtl-log 1 ") (pair_at (number_at 32 64) width_at) bytes
    >>= λ x. guarded (nat_le 1 x.0.0) (record { clients = x.0.0; width = x.0.1 }, x.1)

unfoldable pub second_at : Width → Msg → List ℕ → Option (Option LineData × List ℕ)
second_at width message bytes = if carries_second width message.body then seen_at (λ d. Some d) (data_at (part_of width)) bytes else Some (None, bytes)

unfoldable pub message_parts_at : Width → List ℕ → Option ((Msg × Option LineData) × List ℕ)
message_parts_at width bytes = chain_at (message_at (part_of width)) (second_at width) bytes

abbrev pub is_entry : Width → Channel → Msg → Bool
is_entry width channel message = letter_of channel == letter_of (channel_of message) && message.line % bytes_of_width width == 0

unfoldable pub fields_at : Shape → List ℕ → Option (WideLogged × List ℕ)
fields_at shape bytes =
    pair_at direction_at (pair_at channel_at (pair_at (number_at 32 (shape.clients - 1)) (ended_at 10 (message_parts_at shape.width)))) bytes
    >>= λ x. guarded (is_entry shape.width x.0.1.0 x.0.1.1.1.0)
    (record { first = record { direction = x.0.0; hart = x.0.1.1.0; message = x.0.1.1.1.0 }; second = x.0.1.1.1.1 }, x.1)

unfoldable pub line_at : Shape → List ℕ → Option (WideLogged × List ℕ)
line_at shape bytes = led_at (codes "M ") (fields_at shape) bytes
