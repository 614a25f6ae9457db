use Rattle.std.proofs.Common.{◌∙◌, ap}
use Rattle.machine_model.specs.Changing.{performs_own}
use Rattle.machine_parts.proofs.Nodes.{kept_on}
use Rattle.machine_parts.proofs.perform.deed.update.Goals as goal

pub returns-clause-state : goal.returns-clause-state
returns-clause-state c = c.perform_own.ensures.state ∙ ap (performs_own c.args.hart) c.write.ensures.state

pub returns-clause-kept : goal.returns-clause-kept
returns-clause-kept c = kept_on c.args.parts.now c.write.new.parts c.perform_own.new.parts c.write.ensures.kept c.perform_own.ensures.kept
