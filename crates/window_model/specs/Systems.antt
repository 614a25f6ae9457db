-- The bare window machine: harts with windows over one memory, whose small steps build the global memory order from left to right. It has no bound, guesses any value, and leaves nothing out.
use Rattle.std.specs.Prelude.{ℕ, ◌≡◌, Bool, true, false, ◌||◌, ◌==◌, List, [], ◌∷◌, Some, map, slice_get, slice_set}
use Rattle.std.specs.List.{range_with_len}
use Rattle.elf_loader.specs.Image.{Initial, byte_at}
use Rattle.flat_exploration.specs.Shown.{HartEnd}
use Rattle.hart.specs.declared.retired.Retired.{Retired}
use Rattle.hart.specs.declared.state.Hart.{Hart}
use Rattle.hart.specs.declared.status.Status.{Status}
use Rattle.hart.specs.declared.status.Status.TheVariants.{Stopped}
use Rattle.hart.specs.Run.{status_fits}
use Rattle.machine_types.specs.declared.model.MemoryModel.{MemoryModel}
use Rattle.witnesses.specs.Witnesses.{has_ended}
use Rattle.window_model.specs.Fetching.{CanFetch, fetched}
use Rattle.window_model.specs.Nodes.{Node, node_at_reset}
use Rattle.window_model.specs.Placing.{Admits, CanPlace, beside, placed, written_over}
use Rattle.window_model.specs.Waiting.{Waiting}

-- memory's bytes by address, and the harts
pub record System : Type 0 where
  pub memory : ℕ → ℕ
  pub nodes : List Node

abbrev pub opening : Initial → (harts : ℕ) → System
opening image harts = record { memory = byte_at image; nodes = map (node_at_reset image harts) (range_with_len 0 harts) }

-- ---- small steps

-- a hart fetches by an entry: Pass, Wait or Fail; or what waits at a position of its window is placed
pub data Step : Type 0 where
  Fetch : (hart : ℕ) (entry : Retired) → Step
  Place : (hart k : ℕ) → Step

pub record Fetches (model : MemoryModel) (image : Initial) (h : ℕ) (entry : Retired) (s t : System) : Type 0 where
  pub node : Node
  pub stands : slice_get s.nodes h ≡ Some node
  pub can : CanFetch image node entry
  pub new : t ≡ record { memory = s.memory; nodes = slice_set s.nodes h (fetched model node entry) }

pub record Places (h k : ℕ) (s t : System) : Type 0 where
  pub node : Node
  pub operation : Waiting
  pub stands : slice_get s.nodes h ≡ Some node
  pub can : CanPlace s.memory node k operation
  pub admitted : (g : ℕ) (other : Node) → slice_get s.nodes g ≡ Some other → (g ≡ h → ⊥) → Admits operation other
  pub new : t ≡ record { memory = written_over operation s.memory; nodes = slice_set (map (beside operation) s.nodes) h (placed node k operation) }

abbrev pub Takes : MemoryModel → Initial → Step → System → System → Type 0
Takes model image (Fetch h entry) s t = Fetches model image h entry s t
Takes model image (Place h k) s t = Places h k s t

-- these steps lead from s to u
abbrev pub Leads : MemoryModel → Initial → List Step → System → System → Type 0
Leads model image [] s u = s ≡ u
Leads model image (step ∷ rest) s u = (t : System) × Takes model image step s t × Leads model image rest t u

-- and each memory that they leave was seen
abbrev pub LeadsSeen : MemoryModel → Initial → (seen : (ℕ → ℕ) → Bool) → List Step → System → System → Type 0
LeadsSeen model image seen [] s u = s ≡ u
LeadsSeen model image seen (step ∷ rest) s u = (t : System) × Takes model image step s t × (seen t.memory ≡ true) × LeadsSeen model image seen rest t u

-- ---- ends

-- the hart was stopped so. Here no hart is: it runs, and would stop
abbrev pub is_stopped_as : Status → Status → Bool
is_stopped_as (Stopped code) (Stopped other) = code == other
is_stopped_as _ _ = false

abbrev pub ends_as : Initial → Hart → Status → Bool
ends_as image hart status = status_fits image hart status || is_stopped_as hart.status status

-- the hart has ended so, and nothing waits
pub record HasEndedAs (image : Initial) (n : Node) (result : HartEnd) : Type 0 where
  pub placed : n.window ≡ []
  pub ended : has_ended result.status ≡ true
  pub status : ends_as image n.hart result.status ≡ true
  pub output : n.output ≡ result.output

-- all harts have, by hart
abbrev pub HaveEndedAs : Initial → List Node → List HartEnd → Type 0
HaveEndedAs image [] [] = Unit {0}
HaveEndedAs image (n ∷ nodes) (result ∷ results) = HasEndedAs image n result × HaveEndedAs image nodes results
HaveEndedAs image _ _ = ⊥
