-- For each operation of an order and each rule a bound on the weight of the operations that must come before it, found by one walk along each hart's list.
use Rattle.std.specs.Prelude.{◌≡◌, ◌≤◌, ◌<◌, ◌+◌, ◌||◌, ℕ, max, true, false, List, [], ◌∷◌, Some, slice_get, slice_index_or, take}
use Rattle.std.specs.List.{AllByRecursion}
use Rattle.std.specs.Option.{option_map_or}
use Rattle.machine_types.specs.declared.model.MemoryModel.{MemoryModel}
use Rattle.memory_model.specs.declared.operation.Operation.{Operation}
use Rattle.hart.specs.Uses.{Uses}
use Rattle.memory_model.specs.Items.{Item}
use Rattle.memory_model.specs.Operations.{has_rcsc, has_release, is_amo, is_lr, is_sc, reads, touches, writes}
use Rattle.memory_model.specs.Order.{position_in, source}
use Rattle.memory_model.specs.Rules.{asked_by, is_lr_or_sc, items_of}
use Rattle.rvwmo_order.specs.Carried.{carried_behind, greatest, nothing_carried}
use Rattle.rvwmo_order.specs.Rules.{rule_of}
use Rattle.rvwmo_order.specs.Ranks.{IsIn, rank_of}
use Rattle.rvwmo_order.specs.Passed.{fenced_before, none_passed, passed_behind}
use Rattle.rvwmo_order.specs.Touched.{but, touch_behind, touch_in, untouched}
use Rattle.rvwmo_order.specs.declared.bounds.rows.Row.{Row}
use Rattle.rvwmo_order.specs.declared.rule.Rule.{Rule}
use Rattle.rvwmo_order.specs.declared.rule.Rule.TheVariants.{OverlappingStore, SameByteLoads, AtomicSource, Fence, Acquire, Release, Annotations, Pair, Address, Data, Control, DependentStore, DependentAddress}
use Rattle.rvwmo_order.specs.declared.bounds.walking.Walk.{Walk}

-- ---- rows of bounds

abbrev pub bound_of : Rule → Row → ℕ
bound_of OverlappingStore r = r.overlapping_store
bound_of SameByteLoads r = r.same_byte_loads
bound_of AtomicSource r = r.atomic_source
bound_of Fence r = r.fence
bound_of Acquire r = r.acquire
bound_of Release r = r.release
bound_of Annotations r = r.annotations
bound_of Pair r = r.pair
bound_of Address r = r.address
bound_of Data r = r.data_stored
bound_of Control r = r.control
bound_of DependentStore r = r.dependent_store
bound_of DependentAddress r = r.dependent_address

-- the greatest bound of any rule
abbrev pub greatest_of : Row → ℕ
greatest_of r =
    max (max (max (max (max (max r.overlapping_store r.same_byte_loads) (max r.atomic_source r.dependent_store)) (max (max r.fence r.acquire) r.release)) (max r.annotations r.pair)) (max r.address r.data_stored))
    (max r.control r.dependent_address)

-- no bound: the greatest of 64 bits
abbrev pub most : ℕ
most = 18446744073709551615

abbrev pub unbounded : Row
unbounded = record {
  overlapping_store = most;
  same_byte_loads = most;
  atomic_source = most;
  fence = most;
  acquire = most;
  release = most;
  annotations = most;
  pair = most;
  address = most;
  data_stored = most;
  control = most;
  dependent_store = most;
  dependent_address = most;
}

-- none of so many rows leaves room for a rank behind its own
abbrev pub AreClear : List Row → ℕ → Type 0
AreClear rows count = (place : ℕ) → place < count → greatest_of (slice_index_or rows place unbounded) ≤ place + 1

-- ---- weights, by an operation's place in the order

abbrev pub weight_of : List ℕ → List Operation → Operation → ℕ
weight_of weights order a = slice_index_or weights (position_in order a) 0

-- that of an instruction's operation, where it has one
abbrev pub own_weight : List ℕ → List Operation → Item → ℕ
own_weight weights order m = option_map_or (weight_of weights order) m.operation 0

-- ---- what rows say

-- the row bounds the weight of each operation that must come before b
abbrev pub Bounds : MemoryModel → List (List Item) → List Operation → List ℕ → Operation → Row → Type 0
Bounds model harts order weights b row =
    (rule : Rule) → AllByRecursion (λ (a : Operation). asked_by model harts order (rule_of rule) a b ≡ true → weight_of weights order a ≤ bound_of rule row) order

-- each row does, of the operation at its place
pub record BoundsEach (model : MemoryModel) (harts : List (List Item)) (order : List Operation) (weights : List ℕ) (rows : List Row) : Type 0 where
  pub each : (p : ℕ) (b : Operation) → slice_get order p ≡ Some b → Bounds model harts order weights b (slice_index_or rows p unbounded)

-- each row bounds the places in the order, so that they are less
pub record RanksEach (model : MemoryModel) (harts : List (List Item)) (order : List Operation) (rows : List Row) : Type 0 where
  pub each : (p : ℕ) (b : Operation) → slice_get order p ≡ Some b → (rule : Rule) → AllByRecursion (λ (a : Operation). asked_by model harts order (rule_of rule) a b ≡ true → position_in order a < bound_of rule (slice_index_or rows p unbounded)) order

-- ---- orders of a trace's operations

-- an operation with one to four bytes is the one of the instruction at its place, and an LR of an LR alone
pub record IsGiven (items : List Item) (a : Operation) : Type 0 where
  pub item : Item
  pub there : slice_get items a.place ≡ Some item
  pub gives : item.operation ≡ Some a
  pub has_bytes : 0 < a.size
  pub small : a.size ≤ 4
  pub of_lr : is_lr a.kind ≡ true → is_lr_or_sc item.instr ≡ true

abbrev pub GivesEach : List (List Item) → List Operation → Type 0
GivesEach harts order = AllByRecursion (λ (a : Operation). IsGiven (items_of harts a.hart) a) order

-- the order has the operation of each instruction
abbrev pub HasEach : List (List Item) → List Operation → Type 0
HasEach harts order = (hart place : ℕ) (m : Item) (a : Operation) → slice_get (items_of harts hart) place ≡ Some m → m.operation ≡ Some a → IsIn order a

-- ---- walks

-- a walk along a hart's list has come to a place
pub record HasCome (model : MemoryModel) (own : Item → ℕ) (order : List Operation) (items : List Item) (place : ℕ) (w : Walk) : Type 0 where
  pub model_is : w.model ≡ model
  pub carried : w.carried ≡ carried_behind own nothing_carried (take place items)
  pub passed : w.passed ≡ passed_behind model own none_passed (take place items)
  pub touched : (x : ℕ) → touch_in w.touches x ≡ touch_behind order x own untouched (take place items)

-- the store that a byte of b comes from, where it is of b's hart
pub record IsSource (order : List Operation) (b : Operation) (x : ℕ) (s : Operation) : Type 0 where
  pub touched : touches x b ≡ true
  pub stored : source order b x ≡ Some s
  pub own : s.hart ≡ b.hart

-- of the operation b with these registers, by what the walk carries and the rows of the stores that its bytes come from
pub record IsBoundsRow (order : List Operation) (weights : List ℕ) (rows : List Row) (b : Operation) (u : Uses) (w : Walk) (r : Row) : Type 0 where
  pub overlapping_store : writes b.kind ≡ true → (x : ℕ) → touches x b ≡ true → (touch_in w.touches x).all ≤ r.overlapping_store
  pub same_byte_loads : reads b.kind ≡ true → (x : ℕ) → touches x b ≡ true → but (rank_of order (source order b x)) (touch_in w.touches x) ≤ r.same_byte_loads
  pub atomic_source : reads b.kind ≡ true → (x : ℕ) (s : Operation) → IsSource order b x s → (is_amo s.kind || is_sc s.kind) ≡ true → weight_of weights order s ≤ r.atomic_source
  pub fence : fenced_before b.kind w.passed ≤ r.fence
  pub acquire : w.passed.acquires ≤ r.acquire
  pub release : has_release w.model b ≡ true → w.passed.all ≤ r.release
  pub annotations : has_rcsc w.model b ≡ true → w.passed.annotated ≤ r.annotations
  pub pair : is_sc b.kind ≡ true → w.passed.reserved ≤ r.pair
  pub address : greatest w.carried.registers u.address ≤ r.address
  pub data_stored : greatest w.carried.registers u.stored ≤ r.data_stored
  pub control : writes b.kind ≡ true → w.carried.steered ≤ r.control
  pub dependent_store : reads b.kind ≡ true → (x : ℕ) (s : Operation) → IsSource order b x s → max (slice_index_or rows (position_in order s) unbounded).address (slice_index_or rows (position_in order s) unbounded).data_stored ≤ r.dependent_store
  pub dependent_address : writes b.kind ≡ true → w.carried.addressed ≤ r.dependent_address
