-- What is wrong with an order that isn't legal: the least code, and the first pair that breaks its rule.
use Rattle.std.specs.Prelude.{ℕ, Bool, ◌&&◌, not, ◌==◌, List, [], ◌∷◌, ◌++◌, Option, Some, None, find, map, Contains, IsTrue}
use Rattle.std.specs.List.{flat_map, list_any}
use Rattle.trace_recorder.specs.History.{History}
use Rattle.trace_recorder.specs.declared.operation.OpId.{OpId}
use Rattle.hart.specs.MemoryModel.{MemoryModel}
use Rattle.memory_model.specs.declared.operation.Operation.{Operation}
use Rattle.memory_model.specs.Operations.{same}
use Rattle.memory_model.specs.Order.{before}
use Rattle.memory_model.specs.Items.{Item}
use Rattle.memory_model.specs.Rules.{Rule, rules, asked_by, items_of, paired}
use Rattle.memory_model.specs.Legal.{returns_sources, is_atomic}
use Rattle.memory_model.specs.Traces.{image_of, instructions, operations_at}

-- a code with its test: the pair breaks its rule
pub record Code : Type 0 where
  pub number : ℕ
  pub broken : Operation → Operation → Bool

-- 1 to 13: a must come before b by that rule and doesn't
abbrev pub code_of_rule : MemoryModel → List (List Item) → List Operation → Rule → Code
code_of_rule model harts order r = record { number = r.number; broken = λ a b. asked_by model harts order r a b && not (before order a b) }

-- 14: the load a = b doesn't return its sources' bytes
abbrev pub code_of_values : (ℕ → ℕ) → List Operation → Code
code_of_values image order = record { number = 14; broken = λ a b. same a b && not (returns_sources image order a) }

-- 15: a is an LR and b its successful SC, and they aren't atomic
abbrev pub code_of_atomicity : List (List Item) → List Operation → Code
code_of_atomicity harts order = record { number = 15; broken = λ a b. paired (items_of harts a.hart) a b && not (is_atomic order a b) }

abbrev pub codes : MemoryModel → (ℕ → ℕ) → List (List Item) → List Operation → List Code
codes model image harts order =
    map (code_of_rule model harts order) rules ++ code_of_values image order ∷ code_of_atomicity harts order ∷ []

-- the pairs of an order, that with the first b first, and for one b that with the first a
abbrev pub pairs_of : List Operation → List (Operation × Operation)
pairs_of order = flat_map (λ b. map (λ a. (a, b)) order) order

abbrev pub first_broken : Code → List Operation → Option (Operation × Operation)
first_broken code order = find (λ (p : Operation × Operation). code.broken p.0 p.1) (pairs_of order)

-- a fault: its code, and the pair
pub record Fault : Type 0 where
  pub code : ℕ
  pub a : OpId
  pub b : OpId

abbrev pub name_of : Operation → OpId
name_of a = record { hart = a.hart; place = a.place }

abbrev pub fault_of : ℕ → Operation × Operation → Fault
fault_of code p = record { code = code; a = name_of p.0; b = name_of p.1 }

-- the least code that a pair breaks, and the first such pair
abbrev pub fault_or : ℕ → Option (Operation × Operation) → Option Fault → Option Fault
fault_or code None rest = rest
fault_or code (Some p) rest = Some (fault_of code p)

abbrev pub first_fault : List Code → List Operation → Option Fault
first_fault [] order = None
first_fault (code ∷ rest) order = fault_or code.number (first_broken code order) (first_fault rest order)

-- what is wrong with an order of the trace's operations; nothing where it is legal
abbrev pub fault_in : MemoryModel → History → List OpId → Option Fault
fault_in model t order =
    let operations = operations_at (instructions t) order in
    first_fault (codes model (image_of t) (instructions t) operations) operations

-- two operations of an order break the rule of a code
pub record Breaks (model : MemoryModel) (image : ℕ → ℕ) (harts : List (List Item)) (order : List Operation)
    (number : ℕ) (a b : Operation) : Type 0 where
  pub has_a : Contains order a
  pub has_b : Contains order b
  pub broken : IsTrue (list_any (λ (c : Code). c.number == number && c.broken a b) (codes model image harts order))
