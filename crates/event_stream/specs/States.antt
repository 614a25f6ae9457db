-- All that a machine holds, in lines: what its harts hold, what its manager notes, and D each line of memory that is other than at reset.
use Rattle.std.specs.Prelude.{ℕ, ◌*◌, if◌then◌else◌, List, [], ◌∷◌, ◌++◌, length, take, drop, codes}
use Rattle.std.specs.List.{flat_map, range_with_len}
use Rattle.std.specs.Str.{bytes_eq}
use Rattle.backing_memory.specs.Memory.{line_data}
use Rattle.machine_model.specs.Views.{State, line_size}
use Rattle.text_fields.specs.Fields.{hex, word}
use Rattle.tl_types.specs.Line.{bytes_of, length_of}
use Rattle.tl_types.specs.declared.line.LineSize.{LineSize}
use Rattle.event_stream.specs.Closing.{line_address}
use Rattle.event_stream.specs.Holding.{held_lines}
use Rattle.event_stream.specs.Noted.{noted_lines}

-- ---- memory

-- of memory's bytes those of its line of this number
abbrev pub piece : LineSize → ℕ → List ℕ → List ℕ
piece size k bytes = take (length_of size) (drop (k * length_of size) bytes)

-- a line of memory, as in an I line
abbrev pub data_line : ℕ → List ℕ → List ℕ
data_line line bytes = codes "D " ++ (word line ++ (32 ∷ (hex bytes ++ 10 ∷ [])))

-- nothing, where it is as at reset
abbrev pub changed_line : ℕ → (reset bytes : List ℕ) → List ℕ
changed_line line reset bytes = if bytes_eq bytes reset then [] else data_line line bytes

abbrev pub changed_at : State → ℕ → List ℕ
changed_at s k = changed_line (line_address s k) (piece (line_size s) k s.trace.image.bytes) (bytes_of (line_data s.views.memory k))

abbrev pub changed_lines : State → List ℕ
changed_lines s = flat_map (changed_at s) (range_with_len 0 (length s.views.memory))

-- ---- all

abbrev pub state_lines : State → List ℕ
state_lines s = held_lines s ++ (noted_lines s ++ changed_lines s)
