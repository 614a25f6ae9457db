-- How many events a worker may count, by the numbers that it drew.
use Rattle.std.specs.Prelude.{ℕ, ◌≤◌}
use Rattle.progress_board.specs.Rule.{below}
use Rattle.progress_board.specs.declared.view.View.{View}

-- no more than the seat drew numbers below the limit
abbrev pub IsPaced : (limit : ℕ) → View → (count : ℕ) → Type 0
IsPaced limit seat count = count ≤ below limit seat.drawn
