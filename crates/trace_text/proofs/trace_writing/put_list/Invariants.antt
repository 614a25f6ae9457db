use Rattle.std.proofs.Common.{◌++◌, drop}
use Rattle.std.specs.List.{flat_map}
use Rattle.trace_text.specs.Traces.{retired_lead, retired_text}
use Rattle.text_fields.proofs.Pages.{Spelling}
use Rattle.trace_text.proofs.trace_writing.put_list.Given as goal

abbrev pub invariant-loop-entry : goal.invariant-loop-entry
invariant-loop-entry g l =
    Spelling (g.W.Write.contents l.initial.out) (g.W.Write.contents l.out) l.page (flat_map (λ r. retired_lead l.hart ++ retired_text r) (drop l.entry-index l.entries)) (l.initial.page ++ flat_map (λ r. retired_lead l.hart ++ retired_text r) l.entries)
