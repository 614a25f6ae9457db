-- Laws of the bare window machine: of all its paths, and of harts that fetch a whole list.
use Rattle.std.specs.Prelude.{ℕ, ◌≡◌, ◌<◌, ◌||◌, Bool, true, List, None, Some, length, slice_get}
use Rattle.std.specs.List.{filter_map}
use Rattle.elf_loader.specs.Image.{Initial}
use Rattle.hart.specs.declared.retired.Retired.{Retired}
use Rattle.hart.specs.Run.{are_steps, at_reset, reached}
use Rattle.machine_types.specs.declared.config.Config.{Config}
use Rattle.machine_types.specs.declared.model.MemoryModel.{MemoryModel}
use Rattle.memory_model.specs.declared.operation.Operation.{Operation}
use Rattle.memory_model.specs.Dependencies.{has_address_dependency, has_data_dependency}
use Rattle.memory_model.specs.Items.{Item, items_from}
use Rattle.memory_model.specs.Operations.{has_rcsc}
use Rattle.memory_model.specs.Rules.{preserved}
use Rattle.memory_model.specs.Traces.{last_performed}
use Rattle.trace_recorder.specs.History.{History}
use Rattle.window_model.specs.Complete.{IsEnded, SeesOnly}
use Rattle.window_model.specs.Fetching.{CanFetch, fetched}
use Rattle.window_model.specs.Lazily.{CanFetchAll, IsLedLazily, fetched_all}
use Rattle.window_model.specs.Nodes.{Node, lr_of, node_at_reset, own_of}
use Rattle.window_model.specs.Placing.{Admits, CanPlace, beside, placed}
use Rattle.window_model.specs.Reserving.{are_reserved}
use Rattle.window_model.specs.Systems.{HaveEndedAs, Leads, LeadsSeen, Step, System, opening}
use Rattle.window_model.specs.Waiting.{Waiting}
use Rattle.window_model.specs.Waits.{Waits}
use Rattle.witnesses.specs.Outcomes.{output_from, results_of}

-- only the first n positions are in the set
abbrev pub IsBelow : ℕ → Waits → Type 0
IsBelow n s = (k : ℕ) → s k ≡ true → k < n

-- what an operation at a position waits for, or depends on, stands before it
pub record IsBehind (position : ℕ) (w : Waiting) : Type 0 where
  pub needs : IsBelow position w.needs
  pub source : IsBelow position w.source
  pub pair : IsBelow position w.pair
  pub own : IsBelow position w.own

-- each set is of positions of the window
pub record IsWithin (n : Node) : Type 0 where
  pub registers : (r : ℕ) → IsBelow (length n.window) (n.registers r)
  pub loads : IsBelow (length n.window) n.loads
  pub stores : IsBelow (length n.window) n.stores
  pub lr : IsBelow (length n.window) (lr_of n.reserved)
  pub own : IsBelow (length n.window) (own_of n.reserved)
  pub window : (k : ℕ) (w : Waiting) → slice_get n.window k ≡ Some w → IsBehind k w

-- whatever steps harts take from reset, at each hart
abbrev pub SetsAreWithin : Type 0
SetsAreWithin =
    (model : MemoryModel) (image : Initial) (harts : ℕ) (steps : List Step) (s : System) (h : ℕ) (n : Node)
    → Leads model image steps (opening image harts) s
    → slice_get s.nodes h ≡ Some n
    → IsWithin n

-- ---- a hart fetches a whole list

abbrev pub operations_of : List Item → List Operation
operations_of = filter_map (λ (m : Item). m.operation)

-- what waits is this operation
pub record IsWaiting (model : MemoryModel) (w : Waiting) (b : Operation) : Type 0 where
  pub kind : w.kind ≡ b.kind
  pub address : w.address ≡ b.address
  pub size : w.size ≡ b.size
  pub read : w.read ≡ b.read
  pub written : w.written ≡ b.written
  pub rcsc : w.rcsc ≡ has_rcsc model b

-- where no other operation is placed meanwhile, what waits at the end are the list's operations, each at its position, and an operation needs only what
-- precedes it in preserved program order, whatever the order will be; of what a store depends on, its source has only that
pub record FetchesList (model : MemoryModel) (image : Initial) (harts id : ℕ) (entries : List Retired) (n : Node) (items : List Item) : Type 0 where
  pub can : CanFetchAll model image (node_at_reset image harts id) entries
  pub hart : n.hart ≡ reached (at_reset image id harts) entries
  pub output : n.output ≡ output_from (at_reset image id harts) entries
  pub width : length n.window ≡ length (operations_of items)
  pub operations : (k : ℕ) (w : Waiting) (b : Operation) → slice_get n.window k ≡ Some w → slice_get (operations_of items) k ≡ Some b → IsWaiting model w b
  pub needs : (j k : ℕ) (w : Waiting) (a b : Operation) (all : List (List Item)) (order : List Operation)
      → slice_get all id ≡ Some items → slice_get n.window k ≡ Some w → slice_get (operations_of items) k ≡ Some b
      → w.needs j ≡ true → slice_get (operations_of items) j ≡ Some a → preserved model all order a b ≡ true
  pub source : (j k : ℕ) (w : Waiting) (a b : Operation) → slice_get n.window k ≡ Some w → slice_get (operations_of items) k ≡ Some b
      → w.source j ≡ true → slice_get (operations_of items) j ≡ Some a → (has_address_dependency items a b || has_data_dependency items a b) ≡ true

-- whatever a hart's list reads, if it is a run and its successful SCs are paired with LRs of their words
abbrev pub ListsAreFetched : Type 0
ListsAreFetched =
    (model : MemoryModel) (image : Initial) (harts id : ℕ) (entries : List Retired)
    → are_steps image (at_reset image id harts) entries ≡ true
    → are_reserved None (items_from 0 (at_reset image id harts) entries) ≡ true
    → FetchesList model image harts id entries (fetched_all model (node_at_reset image harts id) entries) (items_from 0 (at_reset image id harts) entries)

-- ---- placing comes before fetching

-- an operation that waits before a hart fetches an instruction may be placed first, and the hart then fetches to the same node
pub record ComesFirst (model : MemoryModel) (image : Initial) (memory : ℕ → ℕ) (n : Node) (entry : Retired) (k : ℕ) (w : Waiting) : Type 0 where
  pub can_place : CanPlace memory n k w
  pub can_fetch : CanFetch image (placed n k w) entry
  pub same : placed (fetched model n entry) k w ≡ fetched model (placed n k w) entry

abbrev pub PlacingComesFirst : Type 0
PlacingComesFirst =
    (model : MemoryModel) (image : Initial) (memory : ℕ → ℕ) (n : Node) (entry : Retired) (k : ℕ) (w : Waiting)
    → CanFetch image n entry → k < length n.window → CanPlace memory (fetched model n entry) k w
    → ComesFirst model image memory n entry k w

-- ---- another hart's store comes before fetching

-- a store that another hart places behind an instruction that a hart fetches may as well be placed before that, and the hart then fetches to the same node
pub record IsAdmittedFirst (model : MemoryModel) (image : Initial) (n : Node) (entry : Retired) (w : Waiting) : Type 0 where
  pub admits : Admits w n
  pub can_fetch : CanFetch image (beside w n) entry
  pub same : beside w (fetched model n entry) ≡ fetched model (beside w n) entry

abbrev pub StoresComeFirst : Type 0
StoresComeFirst =
    (model : MemoryModel) (image : Initial) (n : Node) (entry : Retired) (w : Waiting)
    → IsWithin n → CanFetch image n entry → Admits w (fetched model n entry)
    → IsAdmittedFirst model image n entry w

-- ---- lazily

-- for each path from reset there is one to the same system, in no more steps and with the same memories, on which each hart fetches no further than what it places next
abbrev pub PathsAreLazy : Type 0
PathsAreLazy =
    (model : MemoryModel) (image : Initial) (harts : ℕ) (seen : (ℕ → ℕ) → Bool) (steps : List Step) (s : System)
    → LeadsSeen model image seen steps (opening image harts) s
    → IsLedLazily model image seen (length steps) (opening image harts) s

-- ---- following

-- steps from reset, each of which leaves a memory that was seen, lead to ends with the outcome of a run, and to a memory that has the last write of its order to each byte
pub record IsFollowed (image : Initial) (config : Config) (seen : (ℕ → ℕ) → Bool) (t : History) : Type 0 where
  pub steps : List Step
  pub end : System
  pub leads : LeadsSeen config.model image seen steps (opening image config.harts) end
  pub ended : HaveEndedAs image end.nodes (results_of t)
  pub memory : (x : ℕ) → end.memory x ≡ last_performed t x

-- the bare machine follows each run to its ends, in each order that the model allows, by the memories that the order leaves
abbrev pub EndedAreFollowed : Type 0
EndedAreFollowed = (image : Initial) (config : Config) (seen : (ℕ → ℕ) → Bool) (t : History) → IsEnded image config t → SeesOnly seen t → IsFollowed image config seen t
