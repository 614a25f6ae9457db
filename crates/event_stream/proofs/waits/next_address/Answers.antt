use Rattle.std.proofs.Common.{ap, ◌∙◌}
use Rattle.event_stream.specs.Closing.{accessed_by}
use Rattle.event_stream.proofs.waits.next_address.Goals as goal

pub returns-in-Some : goal.returns-in-Some
returns-in-Some c =
    c.address.ensures ∙ ap accessed_by (rw (c.image.ensures, c.trace.ensures, c.hart.ensures, c.views.ensures) at c.in-Some.ensures)

pub returns-in-None : goal.returns-in-None
returns-in-None c = ap accessed_by (rw (c.image.ensures, c.trace.ensures, c.hart.ensures, c.views.ensures) at c.in-None.ensures)
