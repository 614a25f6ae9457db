-- Operations that are performed before one that precedes them in their hart's list.
use Rattle.std.specs.Prelude.{ℕ, Bool, true, ◌&&◌, not, if◌then◌else◌, nat_lt, List, [], ◌∷◌, ◌++◌, Option, None, Some}
use Rattle.rvwmo_order.specs.Operations.{overlap, precedes}
use Rattle.rvwmo_order.specs.Traces.{instructions, operations_at}
use Rattle.rvwmo_order.specs.Kind.{Kind}
use Rattle.rvwmo_order.specs.TheVariants.{Load, Store, Lr, Sc, Amo}
use Rattle.rvwmo_order.specs.Operation.{Operation}
use Rattle.notes.specs.declared.overtaking.Overtaking.{Overtaking}
use Rattle.rv32_decode.specs.declared.instruction.Instr.{Instr}
use Rattle.rv32_decode.specs.declared.instruction.Instr.TheVariants as instr
use Rattle.trace_recorder.specs.History.{History}

-- b, which is performed before a, overtakes it: a precedes b, and they have no byte in common
abbrev pub overtakes : Operation → Operation → Bool
overtakes b a = precedes a b && not (overlap a b)

-- a stands further behind in their hart's list than what was found
abbrev pub is_nearer : Operation → Option Operation → Bool
is_nearer a None = true
is_nearer a (Some found) = nat_lt found.place a.place

-- of what was found and the operations of a list that b overtakes the one that stands furthest behind
abbrev pub nearest_from : Option Operation → Operation → List Operation → Option Operation
nearest_from found b [] = found
nearest_from found b (a ∷ rest) = nearest_from (if overtakes b a && is_nearer a found then Some a else found) b rest

abbrev pub pair_of : Option Operation → Operation → List Overtaking
pair_of None b = []
pair_of (Some a) b = record { first = a; second = b } ∷ []

-- in the order in which operations are performed: each that overtakes one, with the nearest that it overtakes
abbrev pub overtakings_in : List Operation → List Overtaking
overtakings_in [] = []
overtakings_in (b ∷ later) = pair_of (nearest_from None b later) b ++ overtakings_in later

-- those of a trace's performed order
abbrev pub overtakings : History → List Overtaking
overtakings t = overtakings_in (operations_at (instructions t) t.performed)

-- the smallest set of a FENCE that has the operations of a kind: R (2) or W (1) alone; R for an AMO, which is a load too
abbrev pub set_with : Kind → ℕ
set_with Load = 2
set_with Store = 1
set_with Lr = 2
set_with Sc = 1
set_with Amo = 2

-- the FENCE with these sets of two operations
abbrev pub fence_of : Overtaking → Instr
fence_of o = instr.Fence (record { before = set_with o.first.kind; after = set_with o.second.kind })
