-- When a flat machine shows what a machine of caches and messages does.
use Rattle.std.specs.Prelude.{ℕ, ◌≡◌, ◌<◌, ◌≤◌, List, [], Some, length, map}
use Rattle.machine_model.specs.Image.{end_of}
use Rattle.machine_model.specs.Size.{base}
use Rattle.flat_model.specs.Flat.{Flat, FlatNode, byte_in}
use Rattle.flat_model.specs.Flat as flat
use Rattle.flat_model.specs.declared.results.HartResult.{HartResult}
use Rattle.hart.specs.declared.status.Status.{Status}
use Rattle.machine_model.specs.Views.{Node, State, node_at}
use Rattle.machine_model.specs.Traces.{last_performed}
use Rattle.machine_model.specs.History.{History}

-- a hart's pc, registers, status, output and buffer are the same, and the machine's reservation is the flat one, or none
pub record IsShownBy (n : Node) (m : FlatNode) : Type 0 where
  pub hart : m.hart ≡ n.hart
  pub output : m.output ≡ n.output
  pub buffer : m.buffer ≡ n.buffer
  pub reserved : (word : ℕ) → n.reserved ≡ Some word → m.reserved ≡ Some word

-- memory is the image with what was performed
pub record HoldsPerformed (t : History) (memory : List ℕ) : Type 0 where
  pub size : length memory ≡ length t.image.bytes
  pub bytes : (x : ℕ) → base ≤ x → x < end_of t.image → byte_in memory x ≡ last_performed t x

-- a trace without its messages
abbrev pub without_log : History → History
without_log t = record t { log = [] }

pub record Shows (s : State) (f : Flat) : Type 0 where
  pub config : f.config ≡ s.views.config
  pub count : length f.nodes ≡ length s.views.nodes
  pub nodes : (h : ℕ) → h < length s.views.nodes → IsShownBy (node_at s h) (flat.node_at f h)
  pub memory : HoldsPerformed s.trace f.memory
  -- the same image, lists, statuses and performed order
  pub trace : f.trace ≡ without_log s.trace

-- ---- what is left of a run

-- a hart's status and the numbers that it put out
pub record HartEnd : Type 0 where
  pub status : Status
  pub output : List ℕ

-- by hart
abbrev pub results : State → List HartEnd
results s = map (λ (n : Node). record { status = n.hart.status; output = n.output }) s.views.nodes

abbrev pub flat_results : Flat → List HartEnd
flat_results f = map (λ (n : FlatNode). record { status = n.hart.status; output = n.output }) f.nodes

-- as code tells them
abbrev pub told : List HartResult → List HartEnd
told = map (λ (r : HartResult). record { status = r.status; output = r.output.items })
