use Rattle.std.proofs.Common.{◌++◌, drop}
use Rattle.text_fields.specs.Fields.{numbered}
use Rattle.text_fields.proofs.Pages.{Spelling}
use Rattle.trace_text.specs.Traces.{entries}
use Rattle.trace_text.proofs.trace_writing.put_entries.Given as goal

abbrev pub invariant-loop-hart : goal.invariant-loop-hart
invariant-loop-hart g l =
    Spelling (g.W.Write.contents l.initial.out) (g.W.Write.contents l.out) l.page (numbered entries l.hart (drop l.hart l.trace.history.entries)) (l.initial.page ++ numbered entries 0 l.trace.history.entries)
