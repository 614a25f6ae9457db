use Rattle.std.proofs.Common.{◌≡◌, ◌≤◌, length, vec_capacity}
use Rattle.schedules.proofs.Told.{first_results}
use Rattle.flat_model.specs.Shown.{told}
use Rattle.schedules.proofs.results.results_of.Given as goal

abbrev pub invariant-loop-hart : goal.invariant-loop-hart
invariant-loop-hart l = record {
  told : told l.all.items ≡ first_results l.fn.views l.hart;
  count : length l.all.items ≡ l.hart;
  harts : l.harts ≡ length l.fn.views.views.nodes;
  room : l.harts ≤ vec_capacity l.all;
}
