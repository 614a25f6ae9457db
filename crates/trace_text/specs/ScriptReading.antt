-- Reading a script from left to right. The clauses of read_script don't rest on these words: they are what its parts answer.
use Rattle.std.specs.Prelude.{ℕ, List, [], ◌∷◌, Option, Some, length, ◌&&◌, not, codes}
use Rattle.std.specs.Option.{option_or}
use Rattle.machine_types.specs.declared.limits.TheConstants.{MAX_KIB}
use Rattle.text_fields.specs.Reading.{◌>>=◌, pair_at, seen_at, led_at, ended_at, table_at, number_at, word_at, guarded, all_at}
use Rattle.machine_types.specs.declared.event.Event.{Event}
use Rattle.machine_types.specs.declared.event.Event.TheVariants.{Step, Drain, Evict, Deliver, Local}
use Rattle.tl_types.specs.Line.{size_of_bytes}
use Rattle.tl_types.specs.declared.line.LineSize.{LineSize}
use Rattle.tl_types.specs.declared.line.LineSize.TheVariants.{Bytes16}
use Rattle.tl_types.specs.declared.message.Channel.{Channel}
use Rattle.tl_types.specs.declared.message.Channel.TheVariants.{A, B, C, D, E}
use Rattle.trace_text.specs.declared.script.Head.{Head}
use Rattle.trace_text.specs.declared.script.Script.{Script}
use Rattle.trace_text.specs.Scripts.{head_of, is_head, is_first_version}

abbrev pub channels : List (List ℕ × Channel)
channels = (codes "A ", A) ∷ (codes "B ", B) ∷ (codes "C ", C) ∷ (codes "D ", D) ∷ (codes "E ", E) ∷ []

unfoldable pub channel_at : List ℕ → Option (Channel × List ℕ)
channel_at bytes = table_at channels bytes

-- a word that ends the line
unfoldable pub word_line_at : List ℕ → Option (ℕ × List ℕ)
word_line_at bytes = ended_at 10 word_at bytes

unfoldable pub step_at : List ℕ → Option (Event × List ℕ)
step_at bytes = seen_at (λ h. Step h) (led_at (codes "step ") (number_at 10 255)) bytes

unfoldable pub drain_at : List ℕ → Option (Event × List ℕ)
drain_at bytes = seen_at (λ p. Drain p.0 p.1) (led_at (codes "drain ") (pair_at (number_at 32 255) word_line_at)) bytes

unfoldable pub evict_at : List ℕ → Option (Event × List ℕ)
evict_at bytes = seen_at (λ p. Evict p.0 p.1) (led_at (codes "evict ") (pair_at (number_at 32 255) word_line_at)) bytes

unfoldable pub deliver_at : List ℕ → Option (Event × List ℕ)
deliver_at bytes = seen_at (λ p. Deliver p.0 p.1) (led_at (codes "deliver ") (pair_at channel_at (number_at 10 255))) bytes

unfoldable pub local_at : List ℕ → Option (Event × List ℕ)
local_at bytes = seen_at (λ p. Local p.0 p.1) (led_at (codes "local ") (pair_at (number_at 32 255) (number_at 10 4294967295))) bytes

unfoldable pub event_at : List ℕ → Option (Event × List ℕ)
event_at bytes = option_or (step_at bytes) (option_or (drain_at bytes) (option_or (evict_at bytes) (option_or (deliver_at bytes) (local_at bytes))))

-- no number of a header is more
abbrev pub most : ℕ
most = MAX_KIB

-- the last two numbers of a header of version 1
unfoldable pub last_two_at : List ℕ → Option ((ℕ × ℕ) × List ℕ)
last_two_at bytes = pair_at (number_at 32 most) (number_at 10 most) bytes

-- a line's size, which ends the line of text
unfoldable pub size_at : List ℕ → Option (LineSize × List ℕ)
size_at bytes = number_at 10 most bytes >>= λ n. size_of_bytes n.0 >>= λ s. Some (s, n.1)

-- the last two of a header of version 2
unfoldable pub ways_and_size_at : List ℕ → Option ((ℕ × LineSize) × List ℕ)
ways_and_size_at bytes = pair_at (number_at 32 most) size_at bytes

unfoldable pub first_fields_at : List ℕ → Option (Head × List ℕ)
first_fields_at bytes =
    seen_at (λ p. record { harts = p.0; kib = p.1.0; sets = p.1.1.0; ways = p.1.1.1; line = Bytes16 })
    (led_at (codes "rvtl-script 1 ") (pair_at (number_at 32 most) (pair_at (number_at 32 most) last_two_at))) bytes

unfoldable pub first_head_at : List ℕ → Option (Head × List ℕ)
first_head_at bytes = first_fields_at bytes >>= λ x. guarded (is_head x.0 && is_first_version x.0.harts x.0.line) x

unfoldable pub second_fields_at : List ℕ → Option (Head × List ℕ)
second_fields_at bytes =
    seen_at (λ p. record { harts = p.0; kib = p.1.0; sets = p.1.1.0; ways = p.1.1.1.0; line = p.1.1.1.1 })
    (led_at (codes "rvtl-script 2 ") (pair_at (number_at 32 most) (pair_at (number_at 32 most) (pair_at (number_at 32 most) ways_and_size_at)))) bytes

unfoldable pub second_head_at : List ℕ → Option (Head × List ℕ)
second_head_at bytes = second_fields_at bytes >>= λ x. guarded (is_head x.0 && not (is_first_version x.0.harts x.0.line)) x

unfoldable pub head_at : List ℕ → Option (Head × List ℕ)
head_at bytes = option_or (first_head_at bytes) (second_head_at bytes)

-- the first line and the events
unfoldable pub script_at : List ℕ → Option (Head × List Event)
script_at bytes = head_at bytes >>= λ h. all_at event_at (length h.1) h.1 >>= λ es. Some (h.0, es)

abbrev pub content_of : Script → Head × List Event
content_of s = (head_of s, s.events)
