-- A global memory order: which operation stands before which, and which store a byte comes from (RISC-V Unprivileged
-- ISA 20191213, chapter 14.1, "Memory Model Axioms", load value axiom).
use Rattle.std.specs.Prelude.{ℕ, Bool, true, false, ◌&&◌, ◌||◌, not, nat_lt, if◌then◌else◌, List, [], ◌∷◌, Option, Some, None, filter, IsTrue, Contains}
use Rattle.std.specs.List.{list_all, last_or, position_or_len}
use Rattle.memory_model.specs.declared.operation.Operation.{Operation}
use Rattle.memory_model.specs.Operations.{same, precedes, stores_to, written_at}

-- how many stand before a
abbrev pub position_in : List Operation → Operation → ℕ
position_in order a = position_or_len (same a) order

-- a stands before b
abbrev pub before : List Operation → Operation → Operation → Bool
before order a b = nat_lt (position_in order a) (position_in order b)

-- ---- in order, for a test of which operation must come before which

-- none of the rest must come before a
abbrev pub none_must_precede : (Operation → Operation → Bool) → Operation → List Operation → Bool
none_must_precede must a rest = list_all (λ b. not (must b a)) rest

-- of no two operations must the later one come first
abbrev pub in_order : (Operation → Operation → Bool) → List Operation → Bool
in_order must [] = true
in_order must (a ∷ rest) = none_must_precede must a rest && in_order must rest

-- the reader's form: where a must come before b, a stands before b
abbrev pub Respects : (Operation → Operation → Bool) → List Operation → Type 0
Respects must order = (a b : Operation) → Contains order a → Contains order b → IsTrue (must a b) → IsTrue (before order a b)

-- ---- the source of a byte of a load

-- the stores to x of which the load returns the last, in the order: all that stand before it, and behind it those that
-- precede it in program order
abbrev pub candidates : List Operation → Operation → ℕ → List Operation
candidates [] load x = []
candidates (s ∷ rest) load x =
    if same s load
    then filter (λ t. stores_to x t && precedes t load) rest
    else (if stores_to x s then (s ∷ candidates rest load x) else candidates rest load x)

-- the last of a list
abbrev pub last_of : List Operation → Option Operation
last_of xs = last_or None xs

-- the store that byte x of the load comes from: the last of those; none where it is the image's byte
abbrev pub source : List Operation → Operation → ℕ → Option Operation
source order load x = last_of (candidates order load x)

-- the reader's form: s is a store to x other than the load, and stands before it in the order or precedes it in program order
abbrev pub is_visible : List Operation → Operation → ℕ → Operation → Bool
is_visible order load x s = stores_to x s && not (same s load) && (before order s load || precedes s load)

-- of these the last in the order
abbrev pub last_visible : List Operation → Operation → ℕ → Option Operation
last_visible order load x = last_of (filter (is_visible order load x) order)

-- both come from the image, or from one store
abbrev pub same_source : Option Operation → Option Operation → Bool
same_source None None = true
same_source (Some s) (Some t) = same s t
same_source _ _ = false

-- the byte at x after a store to it, or the image's
abbrev pub byte_from : (ℕ → ℕ) → ℕ → Option Operation → ℕ
byte_from image x None = image x
byte_from image x (Some s) = written_at s x

-- the byte at x after all stores of a list, in their order
abbrev pub last_write : (ℕ → ℕ) → List Operation → ℕ → ℕ
last_write image performed x = byte_from image x (last_of (filter (stores_to x) performed))
