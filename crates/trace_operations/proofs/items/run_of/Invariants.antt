use Rattle.std.proofs.Common.{◌≡◌, ◌++◌, ◌&&◌, drop, length}
use Rattle.hart.specs.Run.{are_steps, reached, status_fits}
use Rattle.memory_model.specs.Items.{items_from}
use Rattle.trace_operations.proofs.items.run_of.Given as goal

abbrev pub invariant-loop-place : goal.invariant-loop-place
invariant-loop-place l = record {
  runs : (are_steps l.image l.reset l.entries && status_fits l.image (reached l.reset l.entries) l.status) ≡ (are_steps l.image l.hart (drop l.place l.entries) && status_fits l.image (reached l.hart (drop l.place l.entries)) l.status);
  listed : items_from 0 l.reset l.entries ≡ l.items ++ items_from l.place l.hart (drop l.place l.entries);
  long : length l.items ≡ l.place;
}
