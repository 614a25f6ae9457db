use Rattle.std.proofs.Common.{◌≡◌, ◌+◌, ◌≤◌, drop}
use Rattle.client_cache.specs.Row.{place_at}
use Rattle.client_cache.proofs.slot.find.Given as goal

-- the rest of the row has what the row has
abbrev pub invariant-loop-way : goal.invariant-loop-way
invariant-loop-way g l = record {
  rest : place_at l.line (drop l.way l.row) ≡ place_at l.line l.row;
  looks : l.ticks ≤ l.initial.ticks + l.way;
}
