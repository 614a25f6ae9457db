-- What a machine is at a moment: its views, and the trace of what happened.
use Rattle.std.specs.Prelude.{ℕ, ◌-◌, ◌/◌, List, [], length, Option, None, map, slice_set, slice_index_or}
use Rattle.std.specs.List.{range_with_len}
use Rattle.backing_memory.specs.Memory.{lines_of}
use Rattle.client_cache.specs.Cache as cache
use Rattle.client_cache.specs.Cache.{Cache}
use Rattle.client_cache.specs.declared.shape.Shape.{Shape}
use Rattle.directory.specs.Directory as directory
use Rattle.directory.specs.Directory.{Notes}
use Rattle.elf_loader.specs.Image.{Initial}
use Rattle.elf_loader.specs.Size.{base}
use Rattle.hart.specs.declared.state.Hart.{Hart}
use Rattle.hart.specs.Run.{at_reset}
use Rattle.machine_types.specs.declared.config.Config.{Config}
use Rattle.store_buffer.specs.Groups.{Groups, no_groups}
use Rattle.tilelink_channels.specs.Queues.{Waiting, none_waiting, pushed}
use Rattle.tl_types.specs.Line.{length_of}
use Rattle.tl_types.specs.declared.line.LineData.{LineData}
use Rattle.tl_types.specs.declared.line.LineSize.{LineSize}
use Rattle.tl_types.specs.declared.line.LineSize.TheVariants.{Bytes16, Bytes64}
use Rattle.tl_types.specs.declared.message.Msg.{Msg}
use Rattle.trace_recorder.specs.History as history
use Rattle.trace_recorder.specs.History.{History, with_logged}
use Rattle.trace_recorder.specs.declared.logged.Direction.TheVariants.{Sent}

-- what belongs to one hart: the numbers that it put out, its reservation, its store buffer, its cache, and the messages between its cache and the manager
pub record Node : Type 0 where
  pub hart : Hart
  pub output : List ℕ
  pub reserved : Option ℕ
  pub buffer : Groups
  pub cache : Cache
  pub queues : Waiting

-- the nodes by hart, main memory and the manager's notes by line, and the number of events that changed the machine
pub record Views : Type 0 where
  pub config : Config
  pub nodes : List Node
  pub memory : List LineData
  pub notes : Notes
  pub changes : ℕ

pub record State : Type 0 where
  pub views : Views
  pub trace : History

-- ---- lines

-- how each cache is laid out
abbrev pub shape_of_config : Config → Shape
shape_of_config config = record { sets = config.sets; ways = config.ways; size = config.line }

abbrev pub line_size : State → LineSize
line_size s = s.views.config.line

-- the place in memory of the line that begins at an address
abbrev pub place_of : LineSize → ℕ → ℕ
place_of size line = (line - base) / length_of size

-- ---- at reset

abbrev pub opening_node : Initial → Config → ℕ → Node
opening_node image config id = record {
  hart = at_reset image id config.harts;
  output = [];
  reserved = None;
  buffer = no_groups;
  cache = cache.opening config.sets config.ways config.line;
  queues = none_waiting;
}

abbrev pub opening_views : Initial → Config → Views
opening_views image config = record {
  config = config;
  nodes = map (opening_node image config) (range_with_len 0 config.harts);
  memory = lines_of config.line image.bytes;
  notes = directory.opening config.harts (length image.bytes / length_of config.line);
  changes = 0;
}

abbrev pub opening : Initial → Config → State
opening image config = record {
  views = opening_views image config;
  trace = history.opening image config.line config.harts;
}

-- ---- nodes

-- what stands at a hart that isn't there
abbrev pub no_node : State → Node
no_node s = opening_node s.trace.image s.views.config 0

abbrev pub node_at : State → ℕ → Node
node_at s h = slice_index_or s.views.nodes h (no_node s)

abbrev pub with_node : ℕ → Node → State → State
with_node h n s = record s { views = record s.views { nodes = slice_set s.views.nodes h n } }

abbrev pub with_trace : History → State → State
with_trace t s = record s { trace = t }

-- ---- messages

-- a message goes into its queue of a hart, and into the log
abbrev pub sent : ℕ → Msg → State → State
sent h m s = with_trace (with_logged (record { direction = Sent; hart = h; message = m }) s.trace) (with_node h (record (node_at s h) { queues = pushed (node_at s h).queues m }) s)
