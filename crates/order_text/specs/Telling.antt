-- What is told of a trace's order, line by line: the verdict, the harts' lists with what is told of each operation, and the order.
use Rattle.std.specs.Prelude.{ℕ, ◌+◌, Bool, List, [], ◌∷◌, ◌++◌, Option, Some, None, length, option_map}
use Rattle.hart.specs.declared.retired.Retired.{Retired}
use Rattle.machine_types.specs.declared.model.MemoryModel.{MemoryModel}
use Rattle.memory_model.specs.declared.operation.Operation.{Operation}
use Rattle.memory_model.specs.Items.{Item}
use Rattle.memory_model.specs.Order.{position_in}
use Rattle.memory_model.specs.Rules.{items_of}
use Rattle.memory_model.specs.Traces.{completed, instructions, operation_at, operations_at}
use Rattle.memory_model.specs.Verdict.{Fault, fault_in}
use Rattle.trace_recorder.specs.History.{History}
use Rattle.trace_recorder.specs.declared.operation.OpId.{OpId}
use Rattle.order_text.specs.Links.{link_lines}
use Rattle.order_text.specs.Neighbours.{neighbour, neighbour_lines, operations_in, overtaken, overtaking_lines}
use Rattle.order_text.specs.declared.line.Broken.{Broken}
use Rattle.order_text.specs.declared.line.Line.{Line}
use Rattle.order_text.specs.declared.line.Line.TheVariants.{Judged, Performed, Instruction, Access, Ordered}
use Rattle.order_text.specs.declared.line.Link.TheVariants.{ReadsFrom, Coherence, FromReads}

abbrev pub broken_of : Fault → Broken
broken_of f = record { code = f.code; first = f.a; second = f.b }

-- ---- an operation

abbrev pub operation_lines : MemoryModel → List Item → List Operation → Operation → List Line
operation_lines model items order a =
    Access a ∷ (link_lines order ReadsFrom a ++ (link_lines order Coherence a ++ (link_lines order FromReads a
    ++ (neighbour_lines model items order (neighbour (operations_in items) a) a ++ overtaking_lines (overtaken order (operations_in items) a) a))))

abbrev pub lines_of : MemoryModel → List Item → List Operation → Option Operation → List Line
lines_of model items order None = []
lines_of model items order (Some a) = operation_lines model items order a

-- ---- the harts' lists

abbrev pub instruction_line : List Operation → OpId → Retired → Option Operation → Line
instruction_line order name entry operation = Instruction name entry.pc entry.word (option_map (position_in order) operation)

-- an instruction, which has this operation or none
abbrev pub entry_lines : MemoryModel → List Item → List Operation → OpId → Retired → Option Operation → List Line
entry_lines model items order name entry operation = instruction_line order name entry operation ∷ lines_of model items order operation

-- the instructions of a hart's list, from a place on
abbrev pub list_lines : MemoryModel → List (List Item) → List Operation → ℕ → ℕ → List Retired → List Line
list_lines model harts order hart place [] = []
list_lines model harts order hart place (entry ∷ rest) =
    entry_lines model (items_of harts hart) order (record { hart = hart; place = place }) entry (operation_at harts (record { hart = hart; place = place }))
    ++ list_lines model harts order hart (place + 1) rest

-- those of all harts, from one on
abbrev pub lists_lines : MemoryModel → List (List Item) → List Operation → ℕ → List (List Retired) → List Line
lists_lines model harts order hart [] = []
lists_lines model harts order hart (entries ∷ rest) = list_lines model harts order hart 0 entries ++ lists_lines model harts order (hart + 1) rest

-- ---- the order

abbrev pub ordered_lines : ℕ → List Operation → List Line
ordered_lines position [] = []
ordered_lines position (a ∷ rest) = Ordered position a ∷ ordered_lines (position + 1) rest

-- ---- all of it, of the completed order

abbrev pub head_lines : MemoryModel → History → List Line
head_lines model t = Judged model (option_map broken_of (fault_in model t (completed t))) ∷ (Performed (length t.performed) (length (completed t)) ∷ [])

abbrev pub body_lines : MemoryModel → History → List Operation → List Line
body_lines model t order = lists_lines model (instructions t) order 0 t.entries ++ ordered_lines 0 order

abbrev pub order_lines : MemoryModel → History → List Line
order_lines model t = head_lines model t ++ body_lines model t (operations_at (instructions t) (completed t))
