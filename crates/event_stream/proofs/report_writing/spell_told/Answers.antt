use Rattle.std.proofs.Common.{◌+◌}
use Rattle.std.specs.Prelude.{decimal}
use Rattle.event_stream.specs.Outcomes.{outcome}
use Rattle.event_stream.proofs.EventLines.{event_spelled}
use Rattle.event_stream.proofs.report_writing.spell_told.Goals as goal

pub returns : goal.returns
returns c =
    rw (c.spell_outcome.ensures.value, c.spell_event.ensures.value, c.number.ensures.value, c.text.ensures.value)
    (event_spelled c.args.page.now (decimal (c.args.index + 2)) (outcome c.args.outcome) c.args.event)
