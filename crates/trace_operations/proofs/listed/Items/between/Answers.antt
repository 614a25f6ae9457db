use Rattle.std.proofs.Common.{◌∙◌}
use Rattle.trace_operations.proofs.Placed.{between_cut}
use Rattle.trace_operations.proofs.listed.Items.between.Goals as goal

pub returns : goal.returns
returns c = c.stretch.ensures.cut ∙ between_cut c.args.self.now c.args.a.now c.args.b.now c.stretch.ensures.placed
