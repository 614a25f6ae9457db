use Rattle.std.proofs.Common.{◌∙◌, ap, length, sym}
use Rattle.trace_operations.proofs.Listing.{length-listed}
use Rattle.trace_operations.proofs.listed.Stretch.len.Goals as goal

pub returns : goal.returns
returns c = sym (length-listed c.self.inside.first c.self.inside.operations.now c.self.inside.slots.now) ∙ ap length c.self.view_is
