-- What is kept while a hart fetches its list: `ops` are the operations of its list so far, in program order, and wait at the positions where they stand.
use Rattle.std.proofs.Common.{◌≡◌, ℕ, ◌<◌, ◌≤◌, List, Bool, true, false, Option, Some, None, ◌||◌}
use Rattle.std.specs.Prelude.{slice_get}
use Rattle.std.specs.List.{list_any}
use Rattle.machine_types.specs.declared.model.MemoryModel.{MemoryModel}
use Rattle.memory_model.specs.declared.operation.Kind.{Kind}
use Rattle.memory_model.specs.declared.operation.Operation.{Operation}
use Rattle.memory_model.specs.Dependencies.{has_address_dependency, has_data_dependency, uses_at}
use Rattle.memory_model.specs.Items.{Item}
use Rattle.memory_model.specs.Operations.{has_rcsc, is_lr, is_sc, overlap, reads, writes}
use Rattle.memory_model.specs.Reaching.{Reaches}
use Rattle.memory_model.specs.Rules.{is_lr_or_sc, paired}
use Rattle.window_model.specs.Nodes.{Node, Reserved}
use Rattle.window_model.specs.Pairs.{Pairs}
use Rattle.window_model.specs.Waiting.{Waiting}
use Rattle.window_model.proofs.Waits.{Only}
use Rattle.window_model.proofs.following.Given.{IsOf}
use Rattle.window_model.proofs.following.Rules.{Asks}
use Rattle.window_model.proofs.following.Stretches.{stretch}

-- the operation of an instruction of the hart's list, before place p
pub record IsOwn (items : List Item) (hart p : ℕ) (a : Operation) : Type 0 where
  pub item : Item
  pub stands : slice_get items a.place ≡ Some item
  pub gives : item.operation ≡ Some a
  pub hart_is : a.hart ≡ hart
  pub before : a.place < p
  pub is : IsOf item.instr a

-- what waits is this operation
pub record Shows (model : MemoryModel) (w : Waiting) (b : Operation) : Type 0 where
  pub kind_is : w.kind ≡ b.kind
  pub address_is : w.address ≡ b.address
  pub size_is : w.size ≡ b.size
  pub read_is : w.read ≡ b.read
  pub written_is : w.written ≡ b.written
  pub rcsc_is : w.rcsc ≡ has_rcsc model b

-- a precedes b in preserved program order
abbrev pub Precedes : MemoryModel → List Item → (b a : Operation) → Type 0
Precedes model items b a = (a.place < b.place) × Asks model items a b

-- b depends on a by its address or its number
abbrev pub Feeds : List Item → (b a : Operation) → Type 0
Feeds items b a = (has_address_dependency items a b || has_data_dependency items a b) ≡ true

-- the LR that an SC b is paired with, where b waits as w
pub record IsPaired (items : List Item) (ops : List Operation) (w : Waiting) (b : Operation) : Type 0 where
  pub lr : Operation
  pub own : IsOwn items b.hart b.place lr
  pub pairs : paired items lr b ≡ true
  pub address_is : lr.address ≡ b.address
  pub size_is : lr.size ≡ b.size
  -- where it waits, the SC's set has it
  pub waits : (k : ℕ) → slice_get ops k ≡ Some lr → w.pair k ≡ true
  -- and so it is with the stores to its word that precede it in program order
  pub stores : (k : ℕ) (s : Operation) → slice_get ops k ≡ Some s → s.place < lr.place → writes s.kind ≡ true → overlap s lr ≡ true → w.own k ≡ true

pub record Stands (model : MemoryModel) (items : List Item) (ops : List Operation) (w : Waiting) (b : Operation) : Type 0 where
  pub shows : Shows model w b
  pub needs : Only (Precedes model items b) ops w.needs
  pub source : Only (Feeds items b) ops w.source
  pub pair : is_sc b.kind ≡ true → IsPaired items ops w b

-- each later operation of these kinds is behind a in preserved program order
abbrev pub Leads : MemoryModel → List Item → (Kind → Bool) → (p : ℕ) → (a : Operation) → Type 0
Leads model items test p a = (b : Operation) → a.hart ≡ b.hart → p ≤ b.place → test b.kind ≡ true → Asks model items a b

-- what came from a is in register r before place p
abbrev pub Fills : List Item → (p r : ℕ) → (a : Operation) → Type 0
Fills items p r a = Reaches (uses_at items a) (stretch items a.place p) r

-- the reservation is that of the last LR before place p
pub record Reserving (items : List Item) (hart : ℕ) (ops : List Operation) (p : ℕ) (r : Reserved) : Type 0 where
  pub lr : Operation
  pub own : IsOwn items hart p lr
  pub is : is_lr lr.kind ≡ true
  pub address_is : r.address ≡ lr.address
  pub alone : list_any (λ (m : Item). is_lr_or_sc m.instr) (stretch items lr.place p) ≡ false
  pub only : Only (λ (a : Operation). a ≡ lr) ops r.lr
  pub waits : (k : ℕ) → slice_get ops k ≡ Some lr → r.lr k ≡ true
  pub stores : (k : ℕ) (s : Operation) → slice_get ops k ≡ Some s → s.place < lr.place → writes s.kind ≡ true → overlap s lr ≡ true → r.own k ≡ true

abbrev pub IsReserving : List Item → (hart : ℕ) → List Operation → (p : ℕ) → Option Reserved → Type 0
IsReserving items hart ops p None = Unit {0}
IsReserving items hart ops p (Some r) = Reserving items hart ops p r

-- the node before place p
pub record Kept (model : MemoryModel) (items : List Item) (hart p : ℕ) (n : Node) (ops : List Operation) : Type 0 where
  pub own : (k : ℕ) (a : Operation) → slice_get ops k ≡ Some a → IsOwn items hart p a
  pub window : Pairs (Stands model items ops) n.window ops
  pub registers : (r : ℕ) → Only (Fills items p r) ops (n.registers r)
  pub loads : Only (Leads model items reads p) ops n.loads
  pub stores : Only (Leads model items writes p) ops n.stores
  pub reserved : IsReserving items hart ops p n.reserved
  pub unpinned : (k : ℕ) (w : Waiting) (x : ℕ) → slice_get n.window k ≡ Some w → w.pinned x ≡ false
