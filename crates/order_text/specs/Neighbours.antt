-- What is told of an operation and those that precede it in its hart's list: by which rules of preserved program order its
-- neighbour must come before it, and which it overtakes (RISC-V Unprivileged ISA 20191213, chapter 14.1, "Preserved Program Order").
use Rattle.std.specs.Prelude.{ℕ, ◌&&◌, Bool, List, [], ◌∷◌, Option, Some, None, filter, map}
use Rattle.std.specs.List.{filter_map}
use Rattle.machine_types.specs.declared.model.MemoryModel.{MemoryModel}
use Rattle.memory_model.specs.declared.operation.Operation.{Operation}
use Rattle.memory_model.specs.Items.{Item}
use Rattle.memory_model.specs.Operations.{precedes}
use Rattle.memory_model.specs.Order.{before, last_of}
use Rattle.memory_model.specs.Verdict.{name_of}
use Rattle.rvwmo_order.specs.Rules.{rule_of}
use Rattle.rvwmo_order.specs.Scans.{all_rules}
use Rattle.rvwmo_order.specs.declared.rule.Rule.{Rule}
use Rattle.order_text.specs.declared.line.Line.{Line}
use Rattle.order_text.specs.declared.line.Line.TheVariants.{Neighbours, Overtaking}

-- the operations of a hart's list, in program order
abbrev pub operations_in : List Item → List Operation
operations_in items = filter_map (λ (m : Item). m.operation) items

-- ---- neighbours

-- the operation before b in program order
abbrev pub neighbour : List Operation → Operation → Option Operation
neighbour own b = last_of (filter (λ a. precedes a b) own)

-- the rules by which a, which precedes b, must be performed before it
unfoldable pub is_asked : MemoryModel → List Item → List Operation → (a b : Operation) → Rule → Bool
is_asked model items order a b r = (rule_of r).asks model items order a b

abbrev pub rules_between : MemoryModel → List Item → List Operation → (a b : Operation) → List Rule
rules_between model items order a b = filter (is_asked model items order a b) all_rules

abbrev pub ruled : Operation → Operation → Rule → Line
ruled a b r = Neighbours (name_of a) (name_of b) (Some r)

-- a line for each, or one that says that there is none
abbrev pub rule_lines : Operation → Operation → List Rule → List Line
rule_lines a b [] = Neighbours (name_of a) (name_of b) None ∷ []
rule_lines a b (r ∷ rest) = map (ruled a b) (r ∷ rest)

abbrev pub neighbour_lines : MemoryModel → List Item → List Operation → Option Operation → Operation → List Line
neighbour_lines model items order None b = []
neighbour_lines model items order (Some a) b = rule_lines a b (rules_between model items order a b)

-- ---- overtaking

-- a precedes b in program order, and b stands before a in the order
abbrev pub is_overtaken : List Operation → Operation → Operation → Bool
is_overtaken order b a = precedes a b && before order b a

-- the nearest operation before b in program order that it overtakes
abbrev pub overtaken : List Operation → List Operation → Operation → Option Operation
overtaken order own b = last_of (filter (is_overtaken order b) own)

abbrev pub overtaking_lines : Option Operation → Operation → List Line
overtaking_lines None b = []
overtaking_lines (Some a) b = Overtaking a b ∷ []
