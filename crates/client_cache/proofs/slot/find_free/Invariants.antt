use Rattle.std.proofs.Common.{◌+◌, ◌≤◌, drop}
use Rattle.client_cache.specs.Row.{AllUsed}
use Rattle.client_cache.proofs.slot.find_free.Given as goal

-- what was passed is used
abbrev pub invariant-loop-way : goal.invariant-loop-way
invariant-loop-way g l = record {
  passed : AllUsed (drop l.way l.row) → AllUsed l.row;
  looks : l.ticks ≤ l.initial.ticks + l.way;
}
