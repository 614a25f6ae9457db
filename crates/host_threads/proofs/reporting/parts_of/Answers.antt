use Rattle.std.proofs.Common.{◌∙◌, List, ap, length, sym}
use Rattle.machine_types.specs.declared.event.Event.{Event}
use Rattle.host_threads.proofs.reporting.parts_of.Goals as goal

pub returns-clause-journal : goal.returns-clause-journal
returns-clause-journal g c = c.into_parts-machine.ensures.journal

pub returns-clause-receipts : goal.returns-clause-receipts
returns-clause-receipts g c = c.into_parts-machine.ensures.counts

pub returns-clause-total : goal.returns-clause-total
returns-clause-total g c = c.into_parts-machine.ensures.total ∙ ap (λ (events : List Event). length events) (sym c.into_parts-machine.ensures.journal)
