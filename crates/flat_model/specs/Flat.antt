-- What a flat machine is at a moment: harts with store buffers over one memory, and what is kept of the run.
use Rattle.std.specs.Prelude.{ℕ, ◌+◌, ◌-◌, List, [], Option, None, map, slice_set, slice_index, slice_index_or, if◌then◌else◌, Bool}
use Rattle.std.specs.List.{range_with_len}
use Rattle.machine_model.specs.Image.{Initial}
use Rattle.machine_model.specs.Size.{base}
use Rattle.hart.specs.declared.state.Hart.{Hart}
use Rattle.hart.specs.Run.{at_reset}
use Rattle.machine_types.specs.declared.config.Config.{Config}
use Rattle.store_buffer.specs.ByteMask.{each_place, is_marked}
use Rattle.store_buffer.specs.Groups.{Groups, no_groups}
use Rattle.machine_model.specs.History as history
use Rattle.machine_model.specs.History.{History}

-- what belongs to one hart: the numbers that it put out, its reserved word, and the stores that wait
pub record FlatNode : Type 0 where
  pub hart : Hart
  pub output : List ℕ
  pub reserved : Option ℕ
  pub buffer : Groups

-- the nodes by hart; memory, the byte at 0x80000000 first; the trace, whose log stays empty: no message is sent
pub record Flat : Type 0 where
  pub config : Config
  pub nodes : List FlatNode
  pub memory : List ℕ
  pub trace : History

-- ---- at reset

abbrev pub opening_node : Initial → Config → ℕ → FlatNode
opening_node image config id = record { hart = at_reset image id config.harts; output = []; reserved = None; buffer = no_groups }

abbrev pub opening : Initial → Config → Flat
opening image config = record {
  config = config;
  nodes = map (opening_node image config) (range_with_len 0 config.harts);
  memory = image.bytes;
  trace = history.opening image config.line config.harts;
}

-- ---- nodes

-- what stands at a hart that isn't there
abbrev pub no_node : Flat → FlatNode
no_node f = opening_node f.trace.image f.config 0

abbrev pub node_at : Flat → ℕ → FlatNode
node_at f h = slice_index_or f.nodes h (no_node f)

abbrev pub with_node : ℕ → FlatNode → Flat → Flat
with_node h n f = record f { nodes = slice_set f.nodes h n }

abbrev pub with_trace : History → Flat → Flat
with_trace t f = record f { trace = t }

-- ---- memory

abbrev pub byte_in : List ℕ → ℕ → ℕ
byte_in memory address = slice_index memory (address - base)

-- the four bytes of a word
abbrev pub word_in : List ℕ → ℕ → List ℕ
word_in memory word = each_place (λ k. byte_in memory (word + k))

abbrev pub with_byte : (address byte : ℕ) → List ℕ → List ℕ
with_byte address byte memory = slice_set memory (address - base) byte

-- a word's byte at a place, where it is marked
abbrev pub with_place : (word : ℕ) → List Bool → List ℕ → (place : ℕ) → List ℕ → List ℕ
with_place word marks bytes k memory = if is_marked marks k then with_byte (word + k) (slice_index bytes k) memory else memory

-- the marked bytes of a word are written
abbrev pub with_word : (word : ℕ) → List Bool → List ℕ → List ℕ → List ℕ
with_word word marks bytes memory =
    with_place word marks bytes 3 (with_place word marks bytes 2 (with_place word marks bytes 1 (with_place word marks bytes 0 memory)))
