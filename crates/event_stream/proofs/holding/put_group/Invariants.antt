use Rattle.std.proofs.Common.{◌++◌, drop}
use Rattle.std.specs.List.{flat_map}
use Rattle.text_fields.proofs.Pages.{Spelling}
use Rattle.event_stream.specs.Holding.{entry_line}
use Rattle.event_stream.proofs.holding.put_group.Given as goal

abbrev pub invariant-loop-entry : goal.invariant-loop-entry
invariant-loop-entry g l =
    Spelling (g.W.Write.contents l.initial.out) (g.W.Write.contents l.out) l.page (flat_map (entry_line l.hart l.group) (drop l.entry-index l.entries)) (l.initial.page ++ flat_map (entry_line l.hart l.group) l.entries)
