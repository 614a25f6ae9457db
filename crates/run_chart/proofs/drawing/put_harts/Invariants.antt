use Rattle.std.proofs.Common.{◌≡◌, ◌++◌}
use Rattle.run_chart.specs.Picture.{harts}
use Rattle.run_chart.proofs.drawing.put_harts.Given as goal

abbrev pub invariant-loop-hart : goal.invariant-loop-hart
invariant-loop-hart l = l.svg ≡ l.initial.svg ++ harts l.plan l.names.symbols.now l.names.size l.story l.hart
