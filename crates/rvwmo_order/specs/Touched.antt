-- What a walk along a hart's list keeps of a byte: the greatest weight of its accesses, and of its loads since the last store by where they return it from.
use Rattle.std.specs.Prelude.{ℕ, ◌/◌, ◌%◌, ◌==◌, max, if◌then◌else◌, List, [], ◌∷◌, nat_eq, nat_lt, slice_index_or, unwrap_or}
use Rattle.std.specs.HashMap as hash
use Rattle.std.specs.HashMap.{HashMap}
use Rattle.std.specs.Option.{option_map_or}
use Rattle.memory_model.specs.declared.operation.Kind.{Kind}
use Rattle.memory_model.specs.declared.operation.Operation.{Operation}
use Rattle.memory_model.specs.Items.{Item}
use Rattle.memory_model.specs.Operations.{reads, touches, writes}
use Rattle.memory_model.specs.Order.{source}
use Rattle.rvwmo_order.specs.Ranks.{rank_of}
use Rattle.rvwmo_order.specs.declared.bounds.touched.Touch.{Touch}

abbrev pub untouched : Touch
untouched = record { all = 0; loads = 0; source = 0; others = 0 }

-- that of a byte in a map of words
abbrev pub touch_in : {S : Type 0} → HashMap ℕ (List Touch) S → ℕ → Touch
touch_in touches x = slice_index_or (unwrap_or (hash.get nat_eq touches (x / 4)) []) (x % 4) untouched

-- the greatest weight of the loads that return it from elsewhere than the store of this rank
abbrev pub but : ℕ → Touch → ℕ
but from t = if t.source == from then t.others else t.loads

-- behind a load of this weight that returns it from the store of this rank
abbrev pub loaded : ℕ → ℕ → Touch → Touch
loaded from own t =
    if t.source == from then record { all = t.all; loads = max t.loads own; source = t.source; others = t.others }
    else (if nat_lt t.loads own then record { all = t.all; loads = own; source = from; others = t.loads }
    else record { all = t.all; loads = t.loads; source = t.source; others = max t.others own })

-- a store leaves no load to ask for
abbrev pub stored : Kind → Touch → Touch
stored kind t = if writes kind then record { all = t.all; loads = 0; source = 0; others = 0 } else t

abbrev pub read : List Operation → ℕ → ℕ → Operation → Touch → Touch
read order x own a t = if reads a.kind then loaded (rank_of order (source order a x)) own t else t

abbrev pub with_all : ℕ → Touch → Touch
with_all own t = record { all = max t.all own; loads = t.loads; source = t.source; others = t.others }

-- behind an operation of this weight that touches it
abbrev pub touched : List Operation → ℕ → ℕ → Operation → Touch → Touch
touched order x own a t = with_all own (read order x own a (stored a.kind t))

-- the same of one that returns it, as a load, from the store of this rank
abbrev pub touched_from : ℕ → ℕ → Operation → Touch → Touch
touched_from from own a t = with_all own (if reads a.kind then loaded from own (stored a.kind t) else stored a.kind t)

-- behind an instruction whose operation, where it has one, has this weight
abbrev pub touch_after : List Operation → ℕ → ℕ → Item → Touch → Touch
touch_after order x own m t = option_map_or (λ (a : Operation). if touches x a then touched order x own a t else t) m.operation t

-- behind a list of instructions, for the weight of each
abbrev pub touch_behind : List Operation → ℕ → (Item → ℕ) → Touch → List Item → Touch
touch_behind order x own t [] = t
touch_behind order x own t (m ∷ rest) = touch_behind order x own (touch_after order x (own m) m t) rest
