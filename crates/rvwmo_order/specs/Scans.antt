-- What the checker's scans find, as functions on lists. What an order is judged by stands in memory_model.
use Rattle.std.specs.Prelude.{ℕ, Bool, ◌&&◌, ◌||◌, ◌==◌, not, List, [], ◌∷◌, Option, Some, None, find}
use Rattle.std.specs.List.{list_all, list_any}
use Rattle.machine_types.specs.declared.model.MemoryModel.{MemoryModel}
use Rattle.memory_model.specs.declared.operation.Operation.{Operation}
use Rattle.memory_model.specs.Items.{Item}
use Rattle.memory_model.specs.Legal.{behind, is_atomic, returns_sources, up_to}
use Rattle.memory_model.specs.Dependencies.{between}
use Rattle.memory_model.specs.Operations.{same, stores_to, touches}
use Rattle.memory_model.specs.Order.{same_source, source}
use Rattle.memory_model.specs.Rules.{asked_by, has_store_to, items_of, paired}
use Rattle.memory_model.specs.Verdict.{name_of}
use Rattle.rvwmo_order.specs.Rules.{rule_of}
use Rattle.rvwmo_order.specs.declared.rule.Rule.{Rule}
use Rattle.rvwmo_order.specs.declared.rule.Rule.TheVariants.{OverlappingStore, SameByteLoads, AtomicSource, Fence, Acquire, Release, Annotations, Pair, Address, Data, Control, DependentStore, DependentAddress}
use Rattle.rvwmo_order.specs.declared.verdict.Code.TheVariants.{Order, LoadValue, Atomicity}
use Rattle.rvwmo_order.specs.declared.verdict.Verdict.{Verdict}
use Rattle.rvwmo_order.specs.declared.verdict.Verdict.TheVariants.{Legal, Fault}

-- w stands behind a source, and between them no store of another hart to x
abbrev pub is_atomic_behind : List Operation → Option Operation → Operation → ℕ → Bool
is_atomic_behind order source w x =
    list_any (same w) (behind source order)
    && list_all (λ t. t.hart == w.hart || not (stores_to x t)) (up_to w (behind source order))

-- byte x of a and b comes from these two, which differ, with no store to it between a and b in program order
abbrev pub differs : ℕ → List Item → Option Operation → Option Operation → Operation → Operation → Bool
differs x items one other a b = touches x b && not (list_any (λ (m : Item). has_store_to x m.operation) (between items a b)) && not (same_source one other)

-- a and b return byte x from different writes, with no store to it between them in program order
abbrev pub returns_differently : ℕ → List Item → List Operation → Operation → Operation → Bool
returns_differently x items order a b = differs x items (source order a x) (source order b x) a b

-- what was found with b, else what is found elsewhere
abbrev pub found_or : Option Operation → Operation → Option (Operation × Operation) → Option (Operation × Operation)
found_or None b rest = rest
found_or (Some a) b rest = Some (a, b)

-- the first operation b behind which stands one that must come before it, with the first such a
abbrev pub first_out_of_order : (Operation → Operation → Bool) → List Operation → Option (Operation × Operation)
first_out_of_order must [] = None
first_out_of_order must (b ∷ rest) = found_or (find (λ a. must a b) rest) b (first_out_of_order must rest)

abbrev pub ruled_or : Rule → Option (Operation × Operation) → Option (Rule × Operation × Operation) → Option (Rule × Operation × Operation)
ruled_or r None rest = rest
ruled_or r (Some p) rest = Some (r, p.0, p.1)

-- the first of the rules that is broken
abbrev pub first_broken_rule : MemoryModel → List (List Item) → List Operation → List Rule → Option (Rule × Operation × Operation)
first_broken_rule model harts order [] = None
first_broken_rule model harts order (r ∷ rest) = ruled_or r (first_out_of_order (asked_by model harts order (rule_of r)) order) (first_broken_rule model harts order rest)

abbrev pub all_rules : List Rule
all_rules = OverlappingStore ∷ SameByteLoads ∷ AtomicSource ∷ Fence ∷ Acquire ∷ Release ∷ Annotations ∷ Pair ∷ Address ∷ Data ∷ Control ∷ DependentStore ∷ DependentAddress ∷ []

-- the first load that returns another byte than its source's
abbrev pub wrong_load : (ℕ → ℕ) → List Operation → Option Operation
wrong_load image order = find (λ a. not (returns_sources image order a)) order

-- the LR and the SC are paired and not atomic
abbrev pub is_broken_pair : List (List Item) → List Operation → Operation → Operation → Bool
is_broken_pair harts order r w = paired (items_of harts r.hart) r w && not (is_atomic order r w)

-- of these SCs the first that is in such a pair, with its LR
abbrev pub first_broken_pair : List (List Item) → List Operation → List Operation → Option (Operation × Operation)
first_broken_pair harts order [] = None
first_broken_pair harts order (w ∷ rest) = found_or (find (λ r. is_broken_pair harts order r w) order) w (first_broken_pair harts order rest)

abbrev pub verdict_by : Option (Rule × Operation × Operation) → Option Operation → Option (Operation × Operation) → Verdict
verdict_by (Some f) _ _ = Fault (Order f.0) (name_of f.1) (name_of f.2)
verdict_by None (Some a) _ = Fault LoadValue (name_of a) (name_of a)
verdict_by None None (Some p) = Fault Atomicity (name_of p.0) (name_of p.1)
verdict_by None None None = Legal

abbrev pub judged : MemoryModel → (ℕ → ℕ) → List (List Item) → List Operation → Verdict
judged model image harts order = verdict_by (first_broken_rule model harts order all_rules) (wrong_load image order) (first_broken_pair harts order order)
