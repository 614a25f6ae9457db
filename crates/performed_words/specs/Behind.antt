-- The word at an address behind a list of operations.
use Rattle.std.specs.Prelude.{ℕ, ◌+◌, List}
use Rattle.flat_exploration.specs.Words.{read_from}
use Rattle.trace_operations.specs.Operation.{Operation}
use Rattle.trace_operations.specs.Order.{last_write}
use Rattle.store_buffer.specs.ByteMask.{each_place}

abbrev pub word_behind : (ℕ → ℕ) → List Operation → ℕ → ℕ
word_behind image order address = read_from (each_place (λ k. last_write image order (address + k))) address 4
