-- What the handling of a message rests on, once the message is taken.
use Rattle.std.specs.Prelude.{ℕ, ◌≡◌, ◌<◌, ◌≤◌, List, length, Option, Some, None, slice_set}
use Rattle.machine_model.specs.Memory.{line_data}
use Rattle.client_cache.specs.Cache.{granted, probed}
use Rattle.directory.specs.declared.answer.Sent.{Sent}
use Rattle.directory.specs.declared.answer.Sent.TheVariants.{Probes, Granting}
use Rattle.elf_loader.specs.Size.{base}
use Rattle.machine_model.specs.Deliveries.{with_less}
use Rattle.machine_model.specs.Views.{State, line_size, node_at, place_of, with_node}
use Rattle.tl_types.specs.Line.{size_of}
use Rattle.tl_types.specs.declared.line.LineData.{LineData}
use Rattle.tl_types.specs.declared.line.LineSize.{LineSize}
use Rattle.tl_types.specs.declared.permission.Cap.{Cap}

-- the line that begins at this address is one of memory's, with as many bytes as each, and the manager has notes of it
pub record HasLine (line : ℕ) (s : State) : Type 0 where
  pub low : base ≤ line
  pub kept : place_of (line_size s) line < length s.views.memory
  pub size : size_of (line_data s.views.memory (place_of (line_size s) line)) ≡ line_size s
  pub noted : place_of (line_size s) line < length s.views.notes.lines

-- data that came with a message are as many bytes as a line has
abbrev pub HasSize : LineSize → Option LineData → Type 0
HasSize size None = Unit {0}
HasSize size (Some bytes) = size_of bytes ≡ size

-- memory once data that came with a message went to this place
abbrev pub written_back : ℕ → Option LineData → List LineData → List LineData
written_back place None lines = lines
written_back place (Some bytes) lines = slice_set lines place bytes

-- the cache once a Probe's copy has shrunk, and once a Grant's is installed, before the answer is sent
abbrev pub shrunk : ℕ → ℕ → Cap → State → State
shrunk h line cap s = with_node h (with_less (probed (node_at s h).cache line cap).1 line (node_at s h)) s

abbrev pub installed : ℕ → ℕ → Cap → Option LineData → State → State
installed h line cap bytes s = with_node h (record (node_at s h) { cache = granted (node_at s h).cache line cap bytes }) s

-- how many messages an Acquire has the manager send
abbrev pub count_of : Sent → ℕ
count_of (Probes cap harts) = length harts
count_of (Granting grant) = 1
