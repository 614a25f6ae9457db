use Rattle.std.proofs.Common.{◌++◌, drop}
use Rattle.std.specs.List.{flat_map}
use Rattle.trace_text.specs.Traces.{logged}
use Rattle.text_fields.proofs.Pages.{Spelling}
use Rattle.trace_text.proofs.trace_writing.put_log.Given as goal

abbrev pub invariant-loop-entry : goal.invariant-loop-entry
invariant-loop-entry g l =
    Spelling (g.W.Write.contents l.initial.out) (g.W.Write.contents l.out) l.page (flat_map logged (drop l.entry-index l.log)) (l.initial.page ++ flat_map logged l.log)
