use Rattle.std.proofs.Common.{◌∙◌}
use Rattle.trace_operations.proofs.Steps.{run_next}
use Rattle.trace_operations.proofs.runs.is_run.Goals as goal

pub loop-rest-preserved : goal.loop-rest-preserved
loop-rest-preserved c = c.loop-rest.invariant ∙ run_next c.args.image.now c.args.status c.loop-rest.hart c.retire.new.hart c.loop-rest.rest.now _ c.is_step.result c.in-len1-up.len_at_least c.is_step.ensures c.if-not-is_step.false c.retire.ensures
