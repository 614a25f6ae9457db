use Rattle.std.proofs.Common.{◌≡◌, [], map, replicate}
use Rattle.std.specs.List.{All}
use Rattle.trace_recorder.proofs.trace.empty_lists.Given as goal

abbrev pub invariant-loop : goal.invariant-loop
invariant-loop l = record {
  lists : map (λ list. list.items) l.lists.items ≡ replicate l.counter [];
  empty : All (λ list. list.items ≡ []) l.lists.items;
}
