use Rattle.std.proofs.Common.{◌++◌, drop}
use Rattle.std.specs.List.{flat_map}
use Rattle.trace_text.specs.Traces.{operation}
use Rattle.text_fields.proofs.Pages.{Spelling}
use Rattle.trace_text.proofs.trace_writing.put_performed.Given as goal

abbrev pub invariant-loop-operation : goal.invariant-loop-operation
invariant-loop-operation g l =
    Spelling (g.W.Write.contents l.initial.out) (g.W.Write.contents l.out) l.page (flat_map operation (drop l.operation-index l.performed)) (l.initial.page ++ flat_map operation l.performed)
