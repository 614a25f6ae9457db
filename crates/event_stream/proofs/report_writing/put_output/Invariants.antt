use Rattle.std.proofs.Common.{◌++◌, drop}
use Rattle.std.specs.List.{flat_map}
use Rattle.text_fields.proofs.Pages.{Spelling}
use Rattle.event_stream.specs.Lines.{output_line}
use Rattle.event_stream.proofs.report_writing.put_output.Given as goal

abbrev pub invariant-loop-number : goal.invariant-loop-number
invariant-loop-number g l =
    Spelling (g.W.Write.contents l.initial.out) (g.W.Write.contents l.out) l.page (flat_map (output_line l.hart) (drop l.number-index l.output)) (l.initial.page ++ flat_map (output_line l.hart) l.output)
