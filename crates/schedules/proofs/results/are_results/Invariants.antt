use Rattle.std.proofs.Common.{◌≡◌, take}
use Rattle.schedules.proofs.Told.{first_results}
use Rattle.flat_model.specs.Shown.{told}
use Rattle.schedules.proofs.results.are_results.Given as goal

abbrev pub invariant-loop-hart : goal.invariant-loop-hart
invariant-loop-hart l = told (take l.hart l.fn.goal) ≡ first_results l.fn.views l.hart
