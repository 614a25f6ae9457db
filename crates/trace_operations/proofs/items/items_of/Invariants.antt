use Rattle.std.proofs.Common.{◌≡◌, ◌++◌, drop, length}
use Rattle.memory_model.specs.Items.{items_from}
use Rattle.trace_operations.proofs.items.items_of.Given as goal

abbrev pub invariant-loop-place : goal.invariant-loop-place
invariant-loop-place l = record {
  listed : items_from 0 l.reset l.entries ≡ l.items ++ items_from l.place l.hart (drop l.place l.entries);
  long : length l.items ≡ l.place;
}
