-- How many stores a checker of orders may look at to find those that the bytes of loads come from.
use Rattle.std.specs.Prelude.{ℕ, ◌+◌, ◌==◌, if◌then◌else◌, List, filter, length, sum_by}
use Rattle.memory_model.specs.declared.operation.Operation.{Operation}
use Rattle.memory_model.specs.Operations.{addresses_of, reads, stores_to}

-- how many stores to a byte an order has
abbrev pub stores_at : List Operation → ℕ → ℕ
stores_at order x = length (filter (stores_to x) order)

-- how many to the bytes of a load, those to each byte counted; none for what is no load
abbrev pub stores_read : List Operation → Operation → ℕ
stores_read order a = if reads a.kind then sum_by (stores_at order) (addresses_of a) else 0

-- for each byte of each load as many as the order has stores to that byte
abbrev pub most_looks : List Operation → ℕ
most_looks order = sum_by (stores_read order) order

-- ---- of one byte, by the ranks of two stores that it may come from, 0 where there is none

-- a store is one look
abbrev pub looked : ℕ → ℕ
looked rank = if rank == 0 then 0 else 1

-- and is looked at once where both are the same
abbrev pub looks_at : ℕ → ℕ → ℕ
looks_at before own = looked before + (if own == before then 0 else looked own)
