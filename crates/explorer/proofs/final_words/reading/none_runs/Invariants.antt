use Rattle.std.proofs.Common.{◌≡◌, take, true}
use Rattle.flat_exploration.specs.Laws.{none_runs}
use Rattle.explorer.proofs.final_words.reading.none_runs.Given as goal

abbrev pub invariant-loop-hart : goal.invariant-loop-hart
invariant-loop-hart l = none_runs (take l.hart l.views.views.nodes) ≡ true
