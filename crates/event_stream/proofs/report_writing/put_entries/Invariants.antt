use Rattle.std.proofs.Common.{◌++◌, drop}
use Rattle.std.specs.List.{flat_map}
use Rattle.text_fields.proofs.Pages.{Spelling}
use Rattle.event_stream.specs.Disassembly.{AreKept}
use Rattle.event_stream.specs.Lines.{retired_line}
use Rattle.event_stream.proofs.report_writing.put_entries.Given as goal

abbrev pub invariant-loop-entry : goal.invariant-loop-entry
invariant-loop-entry g l = record {
  spelled : Spelling (g.W.Write.contents l.initial.out) (g.W.Write.contents l.out) l.page (flat_map (retired_line l.names l.hart l.action) (drop l.entry-index l.entries)) (l.initial.page ++ flat_map (retired_line l.names l.hart l.action) l.entries);
  kept : AreKept l.names l.instructions;
}
