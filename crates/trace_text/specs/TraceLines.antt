-- Reading the lines of a trace from left to right.
use Rattle.std.specs.Prelude.{ℕ, ◌+◌, ◌-◌, ◌*◌, ◌%◌, Bool, List, [], ◌∷◌, ◌++◌, Option, Some, None, length, codes, nat_le, nat_lt, ◌==◌, ◌&&◌, not}
use Rattle.std.specs.Option.{option_or}
use Rattle.machine_types.specs.declared.limits.TheConstants.{MAX_HARTS, MAX_ENTRIES}
use Rattle.text_fields.specs.Fields.{word}
use Rattle.text_fields.specs.Reading.{◌>>=◌, pair_at, seen_at, led_at, ended_at, after, number_at, word_at, hex_at, behind, guarded}
use Rattle.elf_loader.specs.Size.{base, is_memory_kib}
use Rattle.hart.specs.declared.retired.Retired.{Retired}
use Rattle.hart.specs.declared.status.Status.{Status}
use Rattle.hart.specs.declared.status.Status.TheVariants.{Running, Stopped, Exited}
use Rattle.tl_types.specs.Line.{length_of}
use Rattle.tl_types.specs.Message.{channel_of}
use Rattle.tl_types.specs.declared.line.LineSize.{LineSize}
use Rattle.tl_types.specs.declared.line.LineSize.TheVariants.{Bytes16}
use Rattle.tl_types.specs.declared.message.Channel.{Channel}
use Rattle.tl_types.specs.declared.message.Channel.TheVariants.{A, B, C, D, E}
use Rattle.tl_types.specs.declared.message.Msg.{Msg}
use Rattle.trace_recorder.specs.declared.operation.OpId.{OpId}
use Rattle.trace_recorder.specs.declared.logged.Logged.{Logged}
use Rattle.trace_text.specs.declared.head.TraceHead.{TraceHead}
use Rattle.trace_text.specs.ScriptReading.{most, size_at, word_line_at}
use Rattle.trace_text.specs.Scripts.{is_first_version}
use Rattle.trace_text.specs.Traces.{any_set}
use Rattle.trace_text.specs.TraceReading.{direction_at, message_at, loaded_at, answer_at}

-- ---- the header

-- the limits of a machine
abbrev pub is_trace_head : TraceHead → Bool
is_trace_head h =
    (nat_le 1 h.harts && nat_le h.harts MAX_HARTS) && is_memory_kib h.kib
    && (h.entry % 4 == 0 && nat_le base h.entry && nat_le (h.entry + 4) (base + h.kib * 1024))

unfoldable pub first_fields_at : List ℕ → Option (TraceHead × List ℕ)
first_fields_at bytes = seen_at (λ p. record { harts = p.0; kib = p.1.0; entry = p.1.1; line = Bytes16 }) (pair_at (number_at 32 most) (pair_at (number_at 32 most) word_line_at)) bytes

unfoldable pub first_numbers_at : List ℕ → Option (TraceHead × List ℕ)
first_numbers_at bytes = first_fields_at bytes >>= λ x. guarded (is_trace_head x.0 && is_first_version x.0.harts Bytes16) x

-- a word, and the space behind it
unfoldable pub word_field_at : List ℕ → Option (ℕ × List ℕ)
word_field_at bytes = ended_at 32 word_at bytes

unfoldable pub second_fields_at : List ℕ → Option (TraceHead × List ℕ)
second_fields_at bytes =
    seen_at (λ p. record { harts = p.0; kib = p.1.0; entry = p.1.1.0; line = p.1.1.1 }) (pair_at (number_at 32 most) (pair_at (number_at 32 most) (pair_at word_field_at size_at))) bytes

unfoldable pub second_numbers_at : List ℕ → Option (TraceHead × List ℕ)
second_numbers_at bytes = second_fields_at bytes >>= λ x. guarded (is_trace_head x.0 && not (is_first_version x.0.harts x.0.line)) x

unfoldable pub head_at : List ℕ → Option (TraceHead × List ℕ)
head_at bytes = behind (after (codes "rvtl-trace 1\nT ") bytes) first_numbers_at (led_at (codes "rvtl-trace 2\nT ") second_numbers_at bytes)

-- ---- the image

abbrev pub image_lead : ℕ → List ℕ
image_lead address = codes "I " ++ (word address ++ 32 ∷ [])

unfoldable pub image_data_at : ℕ → List ℕ → Option (List ℕ × List ℕ)
image_data_at width bytes = ended_at 10 (hex_at width) bytes >>= λ x. guarded (any_set x.0) x

-- the bytes at this address, which are the old ones where no line says otherwise
unfoldable pub image_line_at : List ℕ → ℕ → List ℕ → Option (List ℕ × List ℕ)
image_line_at old address bytes = behind (after (image_lead address) bytes) (image_data_at (length old)) (Some (old, bytes))

-- ---- a hart's lines

unfoldable pub loaded_field_at : List ℕ → Option (Option ℕ × List ℕ)
loaded_field_at bytes = ended_at 32 loaded_at bytes

unfoldable pub answer_line_at : List ℕ → Option (Option Bool × List ℕ)
answer_line_at bytes = ended_at 10 answer_at bytes

unfoldable pub retired_at : List ℕ → Option (Retired × List ℕ)
retired_at bytes =
    seen_at (λ p. record { pc = p.0; word = p.1.0; loaded = p.1.1.0; sc_ok = p.1.1.1 })
    (pair_at word_field_at (pair_at word_field_at (pair_at loaded_field_at answer_line_at))) bytes

unfoldable pub operation_at : ℕ → List ℕ → Option (OpId × List ℕ)
operation_at harts bytes = seen_at (λ p. record { hart = p.0; place = p.1 }) (pair_at (number_at 32 (harts - 1)) (number_at 10 (MAX_ENTRIES - 1))) bytes

unfoldable pub stop_at : List ℕ → Option (Status × List ℕ)
stop_at bytes = seen_at (λ c. Stopped c) (led_at (codes "stop ") (number_at 10 8)) bytes

unfoldable pub exit_at : List ℕ → Option (Status × List ℕ)
exit_at bytes = seen_at (λ c. Exited c) (led_at (codes "exit ") (number_at 10 255)) bytes

unfoldable pub status_at : List ℕ → Option (Status × List ℕ)
status_at bytes = option_or (after (codes "run\n") bytes >>= λ rest. Some (Running, rest)) (option_or (stop_at bytes) (exit_at bytes))

-- ---- messages

-- a line of memory begins there
abbrev pub is_line : ℕ → ℕ → ℕ → Bool
is_line kib width line = line % width == 0 && nat_le base line && nat_lt line (base + kib * 1024)

abbrev pub letter_of : Channel → ℕ
letter_of A = 65
letter_of B = 66
letter_of C = 67
letter_of D = 68
letter_of E = 69

-- one byte and a space
unfoldable pub letter_at : List ℕ → Option (ℕ × List ℕ)
letter_at [] = None
letter_at (letter ∷ bytes) = after (32 ∷ []) bytes >>= λ rest. Some (letter, rest)

-- a message stands on its own channel, and is of a line of memory
abbrev pub is_logged : ℕ → LineSize → ℕ → Msg → Bool
is_logged kib size letter message = letter == letter_of (channel_of message) && is_line kib (length_of size) message.line

unfoldable pub logged_at : ℕ → ℕ → LineSize → List ℕ → Option (Logged × List ℕ)
logged_at harts kib size bytes =
    pair_at direction_at (pair_at letter_at (pair_at (number_at 32 (harts - 1)) (ended_at 10 (message_at size)))) bytes
    >>= λ x. guarded (is_logged kib size x.0.1.0 x.0.1.1.1) (record { direction = x.0.0; hart = x.0.1.1.0; message = x.0.1.1.1 }, x.1)
