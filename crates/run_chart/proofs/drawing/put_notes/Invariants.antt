use Rattle.std.proofs.Common.{◌≡◌, ◌++◌, take}
use Rattle.std.specs.List.{flat_map}
use Rattle.run_chart.specs.Picture.{noted}
use Rattle.run_chart.proofs.drawing.put_notes.Given as goal

abbrev pub invariant-loop-noted : goal.invariant-loop-noted
invariant-loop-noted l = l.svg ≡ l.initial.svg ++ flat_map (noted l.plan l.names.symbols.now l.hart) (take l.noted-index l.notes)
