use Rattle.std.proofs.Common.{◌≡◌, ◌++◌, length}
use Rattle.std.specs.List.{flat_map}
use Rattle.run_chart.specs.Notes.{performed_note}
use Rattle.run_chart.proofs.notes.add_performed.Given as goal

abbrev pub invariant-loop-rest : goal.invariant-loop-rest
invariant-loop-rest l = l.list.items ++ flat_map (performed_note l.trace.history) l.rest ≡ l.initial.list.items ++ flat_map (performed_note l.trace.history) l.operations

abbrev pub decreases-loop-rest : goal.decreases-loop-rest
decreases-loop-rest l = length l.rest
