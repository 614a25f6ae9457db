use Rattle.std.proofs.Common.{◌≡◌, ◌++◌, length}
use Rattle.std.specs.Prelude.{map}
use Rattle.run_chart.specs.declared.rows.Note.TheVariants as note
use Rattle.run_chart.proofs.notes.add_accessed.Given as goal

abbrev pub invariant-loop-rest : goal.invariant-loop-rest
invariant-loop-rest l = l.list.items ++ map (note.Accessed l.action) l.rest ≡ l.initial.list.items ++ map (note.Accessed l.action) l.entries

abbrev pub decreases-loop-rest : goal.decreases-loop-rest
decreases-loop-rest l = length l.rest
