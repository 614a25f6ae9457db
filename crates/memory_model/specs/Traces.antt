-- What is said of a whole trace: whether its lists are runs, which operations it has, and its orders.
use Rattle.std.specs.Prelude.{ℕ, ◌+◌, Bool, true, false, ◌&&◌, not, ◌==◌, if◌then◌else◌, List, [], ◌∷◌, ◌++◌, Option, IsTrue, filter, length, option_and_then, slice_get}
use Rattle.std.specs.List.{filter_map, list_all, list_any}
use Rattle.hart.specs.Image.{Initial, byte_at}
use Rattle.hart.specs.declared.retired.Retired.{Retired}
use Rattle.hart.specs.declared.status.Status.{Status}
use Rattle.hart.specs.Run.{is_run}
use Rattle.trace_recorder.specs.History.{History}
use Rattle.trace_recorder.specs.declared.operation.OpId.{OpId}
use Rattle.hart.specs.MemoryModel.{MemoryModel}
use Rattle.memory_model.specs.declared.operation.Operation.{Operation}
use Rattle.memory_model.specs.Order.{last_write}
use Rattle.memory_model.specs.Items.{Item, has_operation, items_of_harts}
use Rattle.memory_model.specs.Legal.{IsLegal, keeps_all_three}

-- ---- runs

-- each hart's list and status are those of a run, from hart `id` on
abbrev pub are_runs_from : Initial → ℕ → ℕ → List (List Retired) → List Status → Bool
are_runs_from image harts id [] [] = true
are_runs_from image harts id (entries ∷ rest) (status ∷ statuses) =
    is_run image id harts entries status && are_runs_from image harts (id + 1) rest statuses
are_runs_from image harts id _ _ = false

abbrev pub are_runs : History → Bool
are_runs t = are_runs_from t.image (length t.entries) 0 t.entries t.statuses

-- ---- operations and their names

abbrev pub instructions : History → List (List Item)
instructions t = items_of_harts t.image (length t.entries) 0 t.entries

abbrev pub is_named : OpId → OpId → Bool
is_named a b = a.hart == b.hart && a.place == b.place

-- the name is one of the list
abbrev pub is_among : List OpId → OpId → Bool
is_among names name = list_any (is_named name) names

-- the names of the operations of a hart's list, from a place on, by place
abbrev pub names_from : ℕ → ℕ → List Retired → List OpId
names_from hart place [] = []
names_from hart place (entry ∷ rest) =
    if has_operation entry
    then (record { hart = hart; place = place } ∷ names_from hart (place + 1) rest)
    else names_from hart (place + 1) rest

-- those of all harts, by hart and then by place
abbrev pub names_of_harts : ℕ → List (List Retired) → List OpId
names_of_harts id [] = []
names_of_harts id (entries ∷ rest) = names_from id 0 entries ++ names_of_harts (id + 1) rest

abbrev pub names_in : History → List OpId
names_in t = names_of_harts 0 t.entries

-- the operation of a name
abbrev pub operation_at : List (List Item) → OpId → Option Operation
operation_at harts name =
    option_and_then (λ (m : Item). m.operation)
    (option_and_then (λ (items : List Item). slice_get items name.place) (slice_get harts name.hart))

abbrev pub operations_at : List (List Item) → List OpId → List Operation
operations_at harts names = filter_map (operation_at harts) names

-- ---- orders

-- no name is in it twice
abbrev pub is_distinct : List OpId → Bool
is_distinct [] = true
is_distinct (name ∷ rest) = not (is_among rest name) && is_distinct rest

-- a list that has every operation of the trace exactly once
pub record IsOrder (t : History) (order : List OpId) : Type 0 where
  pub only : IsTrue (list_all (is_among (names_in t)) order)
  pub once : IsTrue (is_distinct order)
  pub every : IsTrue (list_all (is_among order) (names_in t))

abbrev pub has_each_operation_once : History → List OpId → Bool
has_each_operation_once t order = list_all (is_among (names_in t)) order && is_distinct order && list_all (is_among order) (names_in t)

-- the performed order, then each operation that isn't in it, by hart and then by place
abbrev pub completed : History → List OpId
completed t = t.performed ++ filter (λ name. not (is_among t.performed name)) (names_in t)

-- the image's bytes, which count as written before all else, by no hart
abbrev pub image_of : History → ℕ → ℕ
image_of t = byte_at t.image

-- an order of the trace's operations is legal under a model
abbrev pub IsLegalOrder : MemoryModel → History → List OpId → Type 0
IsLegalOrder model t order = IsLegal model (image_of t) (instructions t) (operations_at (instructions t) order)

abbrev pub judged_legal : MemoryModel → History → List OpId → Bool
judged_legal model t order = keeps_all_three model (image_of t) (instructions t) (operations_at (instructions t) order)

-- the byte at x that the last performed store to it wrote, the image's where there is none
abbrev pub last_performed : History → ℕ → ℕ
last_performed t x = last_write (image_of t) (operations_at (instructions t) t.performed) x
