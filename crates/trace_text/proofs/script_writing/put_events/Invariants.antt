use Rattle.std.proofs.Common.{◌++◌, drop}
use Rattle.std.specs.List.{flat_map}
use Rattle.trace_text.specs.Scripts.{event}
use Rattle.text_fields.proofs.Pages.{Spelling}
use Rattle.trace_text.proofs.script_writing.put_events.Given as goal

abbrev pub invariant-loop-event : goal.invariant-loop-event
invariant-loop-event g l =
    Spelling (g.W.Write.contents l.initial.out) (g.W.Write.contents l.out) l.page (flat_map event (drop l.event-index l.events)) (l.initial.page ++ flat_map event l.events)
